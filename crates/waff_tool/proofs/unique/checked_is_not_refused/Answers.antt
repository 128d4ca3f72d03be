use Rattle.waff_tool.proofs.CheckRefusals.{checked_is_not_refused}
use Rattle.waff_tool.proofs.unique.checked_is_not_refused.Goals as goal

pub returns : goal.returns
returns c = record { none = checked_is_not_refused }
