use Rattle.waff_tool.proofs.CheckUniqueness.{draw_text_is_one}
use Rattle.waff_tool.proofs.draws.draw_text_is_one.Goals as goal

pub returns : goal.returns
returns c = record { equal = draw_text_is_one }
