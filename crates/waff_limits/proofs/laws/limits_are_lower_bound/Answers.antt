use Rattle.waff_limits.proofs.LimitLaws.{limits_are_lower_bound}
use Rattle.waff_limits.proofs.laws.limits_are_lower_bound.Goals as goal

pub returns : goal.returns
returns c = limits_are_lower_bound
