use Rattle.waff_assign.specs.Order.{IsOrdered}
use Rattle.waff_plan.proofs.Ticks.{total_is_within_workers}
use Rattle.waff_plan.proofs.laws.total_is_within_workers.Goals as goal

pub returns : goal.returns
returns c = λ tree assigned work. total_is_within_workers (IsOrdered tree assigned) work
