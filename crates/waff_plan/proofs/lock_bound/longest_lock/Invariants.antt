use Rattle.waff_plan.specs.LowerBound.{lock_cost}
use Rattle.waff_plan.specs.Peak.{IsPeak}
use Rattle.waff_plan.specs.Planned.{planned_work}
use Rattle.waff_plan.proofs.lock_bound.longest_lock.Given as goal

abbrev pub invariant-loop-lock : goal.invariant-loop-lock
invariant-loop-lock l = IsPeak (lock_cost l.planned.case.assigned.now (planned_work l.planned)) 0 l.lock l.longest
