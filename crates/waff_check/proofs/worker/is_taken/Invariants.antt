use Rattle.waff_plan.specs.Planned.{planned_starts, planned_work}
use Rattle.waff_check.specs.Faults.{IsTaken}
use Rattle.waff_check.specs.Verdicts.{worker_in}
use Rattle.waff_check.proofs.FirstLaws.{NoneBelow}
use Rattle.waff_check.proofs.worker.is_taken.Given as goal

abbrev pub invariant-loop-i : goal.invariant-loop-i
invariant-loop-i l = NoneBelow (IsTaken (planned_work l.claim.planned) (planned_starts l.claim.planned) (worker_in l.claim.given.now) l.worker l.n) l.i
