use Rattle.waff_figures.proofs.NameLaws.{names_add_up}
use Rattle.waff_figures.proofs.laws.names_add_up.Goals as goal

pub returns : goal.returns
returns c = names_add_up
