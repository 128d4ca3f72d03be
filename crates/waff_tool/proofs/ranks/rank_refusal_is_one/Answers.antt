use Rattle.waff_tool.proofs.RankLaws.{rank_refusal_is_one}
use Rattle.waff_tool.proofs.ranks.rank_refusal_is_one.Goals as goal

pub returns : goal.returns
returns c = record { equal = rank_refusal_is_one }
