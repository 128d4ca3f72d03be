use Rattle.waff_assign.specs.Order.{IsOrdered}
use Rattle.waff_plan.proofs.Shares.{none_is_shorter}
use Rattle.waff_plan.proofs.laws.none_is_shorter.Goals as goal

pub returns : goal.returns
returns c = λ tree assigned work. none_is_shorter (IsOrdered tree assigned) work
