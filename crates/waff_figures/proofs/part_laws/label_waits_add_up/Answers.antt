use Rattle.waff_figures.proofs.PartLemmas.{label_waits_add_up}
use Rattle.waff_figures.proofs.part_laws.label_waits_add_up.Goals as goal

pub returns : goal.returns
returns c = label_waits_add_up
