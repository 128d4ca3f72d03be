use Rattle.waff_tool.proofs.RankLaws.{ranked_is_not_refused}
use Rattle.waff_tool.proofs.ranks.ranked_is_not_refused.Goals as goal

pub returns : goal.returns
returns c = record { none = ranked_is_not_refused }
