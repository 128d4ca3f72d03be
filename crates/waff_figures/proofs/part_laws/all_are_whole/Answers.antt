use Rattle.waff_figures.proofs.PartLemmas.{all_are_whole}
use Rattle.waff_figures.proofs.part_laws.all_are_whole.Goals as goal

pub returns : goal.returns
returns c = all_are_whole
