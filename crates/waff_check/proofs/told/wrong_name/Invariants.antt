use Rattle.waff_assign.specs.Order.{affinity_name}
use Rattle.waff_plan.specs.Planned.{planned_work}
use Rattle.waff_check.specs.Faults.{HasWrongName}
use Rattle.waff_check.specs.Verdicts.{told_name}
use Rattle.waff_check.proofs.FirstLaws.{NoneBelow}
use Rattle.waff_check.proofs.told.wrong_name.Given as goal

abbrev pub invariant-loop-n : goal.invariant-loop-n
invariant-loop-n l = NoneBelow (HasWrongName (planned_work l.claim.planned) (told_name l.claim.given.now) (affinity_name l.claim.planned.case.tree.now l.claim.planned.case.assigned.now)) l.n
