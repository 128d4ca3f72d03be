use Rattle.waff_plan_text.proofs.SpelledLaws.{summary_is_exact}
use Rattle.waff_plan_text.proofs.laws.summary_is_exact.Goals as goal

pub returns : goal.returns
returns c = record { exact = summary_is_exact }
