use Rattle.waff_plan_text.proofs.RatioLemmas.{hundredths_are_one}
use Rattle.waff_plan_text.proofs.laws.hundredths_are_one.Goals as goal

pub returns : goal.returns
returns c = record { one = hundredths_are_one }
