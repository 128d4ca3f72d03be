use Rattle.waff_tool.proofs.ReplayRefusals.{replayed_is_not_refused}
use Rattle.waff_tool.proofs.unique.replayed_is_not_refused.Goals as goal

pub returns : goal.returns
returns c = record { none = replayed_is_not_refused }
