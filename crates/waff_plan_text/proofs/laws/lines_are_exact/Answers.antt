use Rattle.waff_plan_text.proofs.SpelledLineLaws.{lines_are_exact}
use Rattle.waff_plan_text.proofs.laws.lines_are_exact.Goals as goal

pub returns : goal.returns
returns c = record { exact = lines_are_exact }
