use Rattle.waff_figures.proofs.LeastLaws.{one_is_shortest}
use Rattle.waff_figures.proofs.figures.one_is_shortest.Goals as goal

pub returns : goal.returns
returns c = record { shortest = λ instance. one_is_shortest instance (c.over_is_upper_bound.ensures.bound instance) }
