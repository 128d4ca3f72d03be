use Rattle.std.proofs.Common.{Some, ◌++◌, subst, sym}
use Rattle.waff_io.specs.Writing.{Tells}
use Rattle.waff_answer.specs.Runs.{drift_message}
use Rattle.waff_answer.proofs.Telling.{tells_behind, tells_part}
use Rattle.waff_answer.proofs.runs.tell_drift.Goals as goal

pub returns-in-Ok : goal.returns-in-Ok
returns-in-Ok g c =
    subst (λ drift. Tells (g.E.ErrorStream.holds c.args.err.now) (g.E.ErrorStream.holds c.say-in-Ok.new.err) (g.E.ErrorStream.failed c.say-in-Ok.new.err)
    (drift_message drift ++ c.args.advice.now)) (sym c.in-Some.is)
    (tells_behind (g.E.ErrorStream.holds c.args.err.now) (g.E.ErrorStream.holds c.write_drift.new.err) (g.E.ErrorStream.holds c.say-in-Ok.new.err)
    (g.E.ErrorStream.failed c.say-in-Ok.new.err) (drift_message (Some c.in-Some.percent)) c.args.advice.now c.in-Ok.ensures c.say-in-Ok.ensures)

pub returns-in-Err : goal.returns-in-Err
returns-in-Err g c =
    subst (λ drift. Tells (g.E.ErrorStream.holds c.args.err.now) (g.E.ErrorStream.holds c.write_drift.new.err) (g.E.ErrorStream.failed c.write_drift.new.err)
    (drift_message drift ++ c.args.advice.now)) (sym c.in-Some.is)
    (tells_part (g.E.ErrorStream.holds c.args.err.now) (g.E.ErrorStream.holds c.write_drift.new.err) (g.E.ErrorStream.failed c.write_drift.new.err)
    (drift_message (Some c.in-Some.percent)) c.args.advice.now c.in-Err.ensures)
