use Rattle.waff_assign.specs.Order.{IsOrdered}
use Rattle.waff_plan.proofs.Forward.{IsOrdered_forward}
use Rattle.waff_plan.proofs.Uniqueness.{printed_is_one}
use Rattle.waff_plan.proofs.unique.printed_is_one.Goals as goal

pub returns : goal.returns
returns c = record {
  equal = λ tree assigned work count follows. printed_is_one (IsOrdered tree assigned) work (IsOrdered_forward tree assigned work count follows);
}
