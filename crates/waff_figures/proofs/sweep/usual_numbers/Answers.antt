use Rattle.waff_figures.proofs.RowLemmas.{sweep_workers_fit}
use Rattle.waff_figures.proofs.sweep.usual_numbers.Goals as goal

pub returns-clause-fit : goal.returns-clause-fit
returns-clause-fit c = sweep_workers_fit
