use Rattle.waff_tool.proofs.RankLaws.{is_ranked_as_swept}
use Rattle.waff_tool.proofs.ranks.is_ranked_as_swept.Goals as goal

pub returns : goal.returns
returns c = record { equal = is_ranked_as_swept }
