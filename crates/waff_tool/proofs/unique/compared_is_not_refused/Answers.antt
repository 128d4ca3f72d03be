use Rattle.waff_tool.proofs.ComparisonRefusals.{compared_is_not_refused}
use Rattle.waff_tool.proofs.unique.compared_is_not_refused.Goals as goal

pub returns : goal.returns
returns c = record { none = compared_is_not_refused }
