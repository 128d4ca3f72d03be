use Rattle.waff_assign.specs.Order.{IsOrdered}
use Rattle.waff_plan.proofs.Chains.{printed_is_as_long}
use Rattle.waff_plan.proofs.Forward.{IsOrdered_forward}
use Rattle.waff_plan.proofs.laws.printed_is_as_long.Goals as goal

pub returns : goal.returns
returns c = λ tree assigned work same follows. printed_is_as_long (IsOrdered tree assigned) work (IsOrdered_forward tree assigned work same follows)
