use Rattle.waff_tool.proofs.LimitsTexts.{tree_is_reached_in_text}
use Rattle.waff_tool.proofs.limits.tree_is_reached_in_text.Goals as goal

pub returns : goal.returns
returns c = tree_is_reached_in_text c.path_is_reached.ensures
