use Rattle.waff_tool.proofs.LimitsTexts.{none_is_below_text}
use Rattle.waff_tool.proofs.limits.none_is_below_text.Goals as goal

pub returns : goal.returns
returns c = none_is_below_text
