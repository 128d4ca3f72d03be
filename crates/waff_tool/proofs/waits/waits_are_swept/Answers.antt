use Rattle.waff_tool.proofs.WaitsTexts.{waits_are_swept}
use Rattle.waff_tool.proofs.waits.waits_are_swept.Goals as goal

pub returns : goal.returns
returns c = record { equal = waits_are_swept }
