use Rattle.waff_figures.proofs.PercentileLemmas.{percentile_is_one}
use Rattle.waff_figures.proofs.percentile.percentile_is_one.Goals as goal

pub returns : goal.returns
returns c = record { equal = percentile_is_one }
