use Rattle.waff_assign.specs.Order.{IsOrdered}
use Rattle.waff_plan.proofs.Ratios.{bound_is_within_ratio}
use Rattle.waff_plan.proofs.laws.bound_is_within_ratio.Goals as goal

pub returns : goal.returns
returns c = λ tree assigned work. bound_is_within_ratio (IsOrdered tree assigned) work
