use Rattle.std.proofs.Common.{Some, ◌∙◌, ap}
use Rattle.std.proofs.lemmas.Result.{IfOk-weaker}
use Rattle.waff_assign.specs.Case.{instance_of}
use Rattle.waff_plan.specs.Timetable.{Timetable}
use Rattle.waff_plan.specs.Timing.{start_of}
use Rattle.waff_tool.proofs.CertificateLemmas.{as_many}
use Rattle.waff_tool.proofs.WaitsTexts.{planned_obeys}
use Rattle.waff_tool.proofs.waits.worker_waits.Goals as goal

pub invariant_of-planned : goal.invariant_of-planned
invariant_of-planned c =
    let timings = ap (λ (t : Timetable). t.timings) c.plan-plan.ensures.plan ∙ c.in_ok-made.ensures.timings in
    record {
      version = ap (λ (t : Timetable). t.version) c.plan-plan.ensures.plan ∙ c.in_ok-made.ensures.version;
      timings = timings;
      lengths = as_many c.args.case.now.trace.now.messages _ _ timings c.args.case.now.lengths;
    }

pub planned_waits-text-requires-clause-obeys : goal.planned_waits-text-requires-clause-obeys
planned_waits-text-requires-clause-obeys c =
    let made = c.in_ok-made.ensures in
    let list = rw (made.timings, c.number.ensures.number) at made.follows in
    rw (c.plan-plan.ensures.plan, made.version, made.timings)
    (planned_obeys c.args.rule (instance_of c.args.case.now) (Some c.args.k) (start_of c.in_ok-made.made.plan.starts) list)

pub returns : goal.returns
returns c =
    let made = c.in_ok-made.ensures in
    let list = rw (made.timings, c.number.ensures.number) at made.follows in
    IfOk-weaker c.planned_waits-text.result _ _
    (λ text tells. tells c.args.rule (Some c.args.k) (rw c.plan-plan.ensures.plan list))
    c.planned_waits-text.ensures
