use Rattle.waff_plan.specs.Planned.{planned_starts, planned_work}
use Rattle.waff_check.specs.Shifts.{first_of}
use Rattle.waff_check.specs.Verdicts.{worker_in}
use Rattle.waff_check.proofs.ShiftSteps.{AreShiftsBelow}
use Rattle.waff_check.proofs.shifts.shifts.Given as goal

abbrev pub invariant-loop-n : goal.invariant-loop-n
invariant-loop-n l = AreShiftsBelow (first_of (planned_work l.claim.planned) l.many) (planned_starts l.claim.planned) (worker_in l.claim.given.now) l.n l.shifts.items
