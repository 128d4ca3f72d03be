use Rattle.waff_figures.proofs.LeastLaws.{over_is_upper_bound}
use Rattle.waff_figures.proofs.figures.over_is_upper_bound.Goals as goal

pub returns : goal.returns
returns c = record { bound = λ instance. over_is_upper_bound instance c.ratio_up_is_upper_bound.ensures.bound }
