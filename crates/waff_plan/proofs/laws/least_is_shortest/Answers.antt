use Rattle.waff_assign.specs.Order.{IsOrdered}
use Rattle.waff_plan.proofs.Chains.{least_is_shortest}
use Rattle.waff_plan.proofs.laws.least_is_shortest.Goals as goal

pub returns : goal.returns
returns c = λ tree assigned work. least_is_shortest (IsOrdered tree assigned) work
