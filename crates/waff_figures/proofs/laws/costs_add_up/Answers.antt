use Rattle.waff_figures.proofs.AddingUp.{costs_add_up}
use Rattle.waff_figures.proofs.laws.costs_add_up.Goals as goal

pub returns : goal.returns
returns c = costs_add_up
