use Rattle.waff_tool.proofs.ReplayRefusals.{replay_refusal_is_one}
use Rattle.waff_tool.proofs.unique.replay_refusal_is_one.Goals as goal

pub returns : goal.returns
returns c = record { equal = replay_refusal_is_one }
