use Rattle.waff_figures.proofs.NameLaws.{names_in_order}
use Rattle.waff_figures.proofs.laws.names_in_order.Goals as goal

pub returns : goal.returns
returns c = names_in_order
