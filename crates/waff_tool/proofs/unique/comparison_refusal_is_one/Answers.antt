use Rattle.waff_tool.proofs.ComparisonRefusals.{comparison_refusal_is_one}
use Rattle.waff_tool.proofs.unique.comparison_refusal_is_one.Goals as goal

pub returns : goal.returns
returns c = record { equal = comparison_refusal_is_one }
