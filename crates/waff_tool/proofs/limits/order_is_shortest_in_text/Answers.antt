use Rattle.waff_tool.proofs.LimitsTexts.{order_is_shortest_in_text}
use Rattle.waff_tool.proofs.limits.order_is_shortest_in_text.Goals as goal

pub returns : goal.returns
returns c = order_is_shortest_in_text
