use Rattle.waff_limits.proofs.LimitLaws.{none_is_below_limits}
use Rattle.waff_limits.proofs.laws.none_is_below_limits.Goals as goal

pub returns : goal.returns
returns c = none_is_below_limits
