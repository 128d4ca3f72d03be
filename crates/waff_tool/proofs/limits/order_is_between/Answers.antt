use Rattle.waff_tool.proofs.LimitsTexts.{order_is_between}
use Rattle.waff_tool.proofs.limits.order_is_between.Goals as goal

pub returns : goal.returns
returns c = order_is_between
