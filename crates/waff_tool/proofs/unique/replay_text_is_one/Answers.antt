use Rattle.waff_tool.proofs.CheckUniqueness.{replay_text_is_one}
use Rattle.waff_tool.proofs.unique.replay_text_is_one.Goals as goal

pub returns : goal.returns
returns c = record { equal = replay_text_is_one }
