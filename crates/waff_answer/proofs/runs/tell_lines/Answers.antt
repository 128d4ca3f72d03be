use Rattle.std.proofs.Common.{Some, ◌++◌, append_assoc, subst, sym}
use Rattle.waff_io.specs.Writing.{Tells}
use Rattle.waff_answer.specs.Runs.{drift_message, run_message}
use Rattle.waff_answer.proofs.Telling.{tells_behind, tells_part}
use Rattle.waff_answer.proofs.runs.tell_lines.Goals as goal

pub returns-in-Ok : goal.returns-in-Ok
returns-in-Ok g c =
    let line = run_message c.args.error.now in
    let advice = c.args.advice.now in
    subst (λ drift. Tells (g.E.ErrorStream.holds c.args.err.now) (g.E.ErrorStream.holds c.tell_line-in-Ok.new.err) (g.E.ErrorStream.failed c.tell_line-in-Ok.new.err)
    ((drift_message drift ++ line) ++ advice)) (sym c.in-Some.is)
    (subst (Tells (g.E.ErrorStream.holds c.args.err.now) (g.E.ErrorStream.holds c.tell_line-in-Ok.new.err) (g.E.ErrorStream.failed c.tell_line-in-Ok.new.err))
    (sym (append_assoc (drift_message (Some c.in-Some.percent)) line advice))
    (tells_behind (g.E.ErrorStream.holds c.args.err.now) (g.E.ErrorStream.holds c.write_drift.new.err) (g.E.ErrorStream.holds c.tell_line-in-Ok.new.err)
    (g.E.ErrorStream.failed c.tell_line-in-Ok.new.err) (drift_message (Some c.in-Some.percent)) (line ++ advice) c.in-Ok.ensures c.tell_line-in-Ok.ensures))

pub returns-in-Err : goal.returns-in-Err
returns-in-Err g c =
    let line = run_message c.args.error.now in
    let advice = c.args.advice.now in
    subst (λ drift. Tells (g.E.ErrorStream.holds c.args.err.now) (g.E.ErrorStream.holds c.write_drift.new.err) (g.E.ErrorStream.failed c.write_drift.new.err)
    ((drift_message drift ++ line) ++ advice)) (sym c.in-Some.is)
    (subst (Tells (g.E.ErrorStream.holds c.args.err.now) (g.E.ErrorStream.holds c.write_drift.new.err) (g.E.ErrorStream.failed c.write_drift.new.err))
    (sym (append_assoc (drift_message (Some c.in-Some.percent)) line advice))
    (tells_part (g.E.ErrorStream.holds c.args.err.now) (g.E.ErrorStream.holds c.write_drift.new.err) (g.E.ErrorStream.failed c.write_drift.new.err)
    (drift_message (Some c.in-Some.percent)) (line ++ advice) c.in-Err.ensures))
