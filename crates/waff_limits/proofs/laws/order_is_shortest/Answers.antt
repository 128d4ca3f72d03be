use Rattle.waff_limits.proofs.LimitLaws.{order_is_shortest}
use Rattle.waff_limits.proofs.laws.order_is_shortest.Goals as goal

pub returns : goal.returns
returns c = order_is_shortest
