use Rattle.waff_assign.specs.Order.{IsOrdered}
use Rattle.waff_plan.proofs.Uniqueness.{least_is_one}
use Rattle.waff_plan.proofs.unique.least_is_one.Goals as goal

pub returns : goal.returns
returns c = record { same = λ tree assigned work. least_is_one (IsOrdered tree assigned) work }
