use Rattle.waff_assign.specs.Order.{IsOrdered}
use Rattle.waff_plan.proofs.Forward.{IsOrdered_forward}
use Rattle.waff_list.proofs.Graham.{list_plans_are_within_bound}
use Rattle.waff_list.proofs.laws.list_plans_are_within_bound.Goals as goal

pub returns : goal.returns
returns c = λ tree assigned work same follows.
    list_plans_are_within_bound (IsOrdered tree assigned) work (IsOrdered_forward tree assigned work same follows)
