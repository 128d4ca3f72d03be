use Rattle.waff_tool.proofs.TextUniqueness.{compare_text_is_one}
use Rattle.waff_tool.proofs.unique.compare_text_is_one.Goals as goal

pub returns : goal.returns
returns c = record { equal = compare_text_is_one }
