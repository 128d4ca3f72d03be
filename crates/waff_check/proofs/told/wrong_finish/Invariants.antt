use Rattle.waff_plan.specs.Planned.{planned_starts, planned_work}
use Rattle.waff_check.specs.Faults.{HasWrongFinish}
use Rattle.waff_check.specs.Verdicts.{told_finish}
use Rattle.waff_check.proofs.FirstLaws.{NoneBelow}
use Rattle.waff_check.proofs.told.wrong_finish.Given as goal

abbrev pub invariant-loop-n : goal.invariant-loop-n
invariant-loop-n l = NoneBelow (HasWrongFinish (planned_work l.claim.planned) (planned_starts l.claim.planned) (told_finish l.claim.given.now)) l.n
