use Rattle.waff_tool.proofs.WorstTexts.{worst_is_swept}
use Rattle.waff_tool.proofs.waits.worst_is_swept.Goals as goal

pub returns : goal.returns
returns c = record { equal = worst_is_swept }
