use Rattle.waff_tool.proofs.CheckUniqueness.{check_text_is_one}
use Rattle.waff_tool.proofs.unique.check_text_is_one.Goals as goal

pub returns : goal.returns
returns c = record { equal = check_text_is_one }
