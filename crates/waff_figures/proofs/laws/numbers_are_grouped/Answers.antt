use Rattle.waff_figures.proofs.GroupLemmas.{are_grouped}
use Rattle.waff_figures.proofs.laws.numbers_are_grouped.Goals as goal

pub returns : goal.returns
returns c = are_grouped
