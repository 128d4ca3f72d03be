use Rattle.waff_plan.specs.Planned.{planned_starts}
use Rattle.waff_plan.specs.Timing.{timing_of}
use Rattle.waff_plan.specs.Work.{finish_of}
use Rattle.waff_check.specs.Listed.{list_work_of}
use Rattle.waff_check.proofs.ListLaws.{ClearBelow}
use Rattle.waff_check.proofs.told.unawaited.Given as goal

abbrev pub invariant-loop-awaited : goal.invariant-loop-awaited
invariant-loop-awaited l =
    let timings = l.planned.plan.now.timings in
    let start = planned_starts l.planned in
    ClearBelow (finish_of (list_work_of timings) start) (start l.n) (timing_of timings l.n).after l.awaited-index
