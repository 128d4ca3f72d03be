use Rattle.waff_assign.specs.Order.{IsOrdered}
use Rattle.waff_plan.proofs.Chains.{fewer_pairs_are_no_longer}
use Rattle.waff_plan.proofs.laws.refined_is_no_longer.Goals as goal

pub returns : goal.returns
returns c = λ tree coarse_tree assigned coarse_assigned work refines.
    fewer_pairs_are_no_longer (IsOrdered tree assigned) (IsOrdered coarse_tree coarse_assigned) work refines
