use Rattle.waff_figures.proofs.NameLaws.{name_is_once}
use Rattle.waff_figures.proofs.laws.name_is_once.Goals as goal

pub returns : goal.returns
returns c = name_is_once
