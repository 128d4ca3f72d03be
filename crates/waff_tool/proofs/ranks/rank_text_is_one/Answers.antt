use Rattle.waff_tool.proofs.RankLaws.{rank_text_is_one}
use Rattle.waff_tool.proofs.ranks.rank_text_is_one.Goals as goal

pub returns : goal.returns
returns c = record { equal = rank_text_is_one }
