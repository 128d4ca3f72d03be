use Rattle.std.proofs.Common.{◌-◌, ◌≤◌, Some}
use Rattle.waff_plan.specs.Planned.{planned_starts, planned_work}
use Rattle.waff_check.specs.Faults.{HasWrongWorker, NoneOf}
use Rattle.waff_check.specs.Shifts.{first_of}
use Rattle.waff_check.specs.Verdicts.{worker_in}
use Rattle.waff_check.proofs.worker.right_ones.Given as goal

abbrev pub invariant-loop-right : goal.invariant-loop-right
invariant-loop-right l = record {
  right : NoneOf (HasWrongWorker (first_of (planned_work l.claim.planned) l.right) (planned_starts l.claim.planned) (worker_in l.claim.given.now) (Some l.k));
  rising : l.right ≤ l.wrong;
  within : l.wrong ≤ (planned_work l.claim.planned).count;
}

abbrev pub decreases-loop-right : goal.decreases-loop-right
decreases-loop-right l = l.wrong - l.right
