use Rattle.waff_plan.proofs.LowerBounds.{none_is_below}
use Rattle.waff_plan.proofs.lower_bound.none_is_below.Goals as goal

pub returns : goal.returns
returns c = none_is_below
