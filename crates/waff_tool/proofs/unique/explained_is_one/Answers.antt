use Rattle.waff_tool.proofs.ExplainedLaws.{explained_is_one}
use Rattle.waff_tool.proofs.unique.explained_is_one.Goals as goal

pub returns : goal.returns
returns c = record { equal = explained_is_one }
