use Rattle.std.proofs.Common.{◌≡◌, ◌*◌, ◌∙◌, Ok, ap₂, string_bytes, subst, sym}
use Rattle.waff_assign.specs.Case.{instance_of}
use Rattle.waff_inputs.specs.Known.{newest, trace_of}
use Rattle.waff_record.specs.Drift.{drift_of}
use Rattle.waff_record.specs.Ran.{drift_told}
use Rattle.waff_record.specs.Runs.{AreRunTexts, messages_told, trace_told}
use Rattle.waff_record.proofs.Over.{run_texts}
use Rattle.waff_record.proofs.Retold.{is_measured, told_is_read}
use Rattle.waff_record.proofs.outcome.record_told.Goals as goal

pub returns-in-Ok-clause-texts : goal.returns-in-Ok-clause-texts
returns-in-Ok-clause-texts c =
    let told = c.args.told.now in
    let run = told.run in
    let trace = run.case.trace.now in
    let measured = c.in-Ok.measured.items in
    let text = string_bytes c.in_ok-text.text in
    let law = c.trace_anew_is_read.ensures newest run.layout.now.spaces run.bytes.now trace (messages_told trace.messages told.plan.now.timings) in
    let read : trace_of run.layout.now.spaces measured ≡ Ok (trace_told trace told.plan.now)
    = subst (λ bytes. trace_of run.layout.now.spaces bytes ≡ Ok (trace_told trace told.plan.now)) (sym c.in-Ok.ensures)
    (told_is_read told c.requires.told c.len-planned.ensures.table law) in
    let drift : c.drift_of-drift.result ≡ drift_told told
    = c.drift_of-drift.ensures ∙ ap₂ (λ long last. drift_of (long * run.tick) last) c.length.ensures.length c.last_finish.ensures in
    subst (AreRunTexts run.hierarchy.now (instance_of run.case) run.workers run.tick run.turns.now measured text) (sym drift)
    (run_texts told (trace_told trace told.plan.now) measured text read c.requires.assigned (is_measured trace told.plan.now) c.in_ok-text.ensures)
