use Rattle.waff_tool.proofs.LimitsTexts.{data_bounds_texts}
use Rattle.waff_tool.proofs.limits.data_bounds_texts.Goals as goal

pub returns : goal.returns
returns c = data_bounds_texts
