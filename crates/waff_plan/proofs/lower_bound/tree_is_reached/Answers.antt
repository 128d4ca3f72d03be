use Rattle.waff_plan.proofs.TreeStarts.{tree_is_reached}
use Rattle.waff_plan.proofs.lower_bound.tree_is_reached.Goals as goal

pub returns : goal.returns
returns c = tree_is_reached
