use Rattle.waff_tool.proofs.WhereTexts.{figures_are_swept}
use Rattle.waff_tool.proofs.wheres.figures_are_swept.Goals as goal

pub returns : goal.returns
returns c = record { equal = figures_are_swept }
