use Rattle.waff_tool.proofs.ToldTexts.{told_text_is_one}
use Rattle.waff_tool.proofs.told.told_text_is_one.Goals as goal

pub returns : goal.returns
returns c = record { equal = told_text_is_one }
