use Rattle.waff_tool.proofs.LimitsTexts.{limits_are_swept}
use Rattle.waff_tool.proofs.limits.limits_are_swept.Goals as goal

pub returns : goal.returns
returns c = limits_are_swept
