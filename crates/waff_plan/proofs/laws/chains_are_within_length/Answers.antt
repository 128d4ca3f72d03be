use Rattle.waff_assign.specs.Order.{IsOrdered}
use Rattle.waff_plan.proofs.Chains.{chains_are_within_length}
use Rattle.waff_plan.proofs.laws.chains_are_within_length.Goals as goal

pub returns : goal.returns
returns c = λ tree assigned work. chains_are_within_length (IsOrdered tree assigned) work
