use Rattle.waff_figures.proofs.PartLemmas.{affinity_waits_add_up}
use Rattle.waff_figures.proofs.part_laws.affinity_waits_add_up.Goals as goal

pub returns : goal.returns
returns c = affinity_waits_add_up
