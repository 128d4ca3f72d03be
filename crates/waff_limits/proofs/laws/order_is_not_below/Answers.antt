use Rattle.waff_limits.proofs.LimitLaws.{order_is_not_below}
use Rattle.waff_limits.proofs.laws.order_is_not_below.Goals as goal

pub returns : goal.returns
returns c = order_is_not_below
