use Rattle.waff_limits.proofs.LimitLaws.{limits_are_one}
use Rattle.waff_limits.proofs.laws.limits_are_one.Goals as goal

pub returns : goal.returns
returns c = limits_are_one
