use Rattle.waff_plan.specs.Planned.{planned_starts, planned_work}
use Rattle.waff_check.specs.Faults.{HasWrongWorker}
use Rattle.waff_check.specs.Verdicts.{worker_in}
use Rattle.waff_check.proofs.FirstLaws.{NoneBelow}
use Rattle.waff_check.proofs.worker.first_misplaced.Given as goal

abbrev pub invariant-loop-n : goal.invariant-loop-n
invariant-loop-n l = NoneBelow (HasWrongWorker (planned_work l.claim.planned) (planned_starts l.claim.planned) (worker_in l.claim.given.now) l.workers) l.n
