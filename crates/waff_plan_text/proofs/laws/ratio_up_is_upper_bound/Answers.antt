use Rattle.waff_plan_text.proofs.RatioLemmas.{ratio_up_is_upper_bound}
use Rattle.waff_plan_text.proofs.laws.ratio_up_is_upper_bound.Goals as goal

pub returns : goal.returns
returns c = record { bound = ratio_up_is_upper_bound }
