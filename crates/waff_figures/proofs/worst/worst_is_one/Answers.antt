use Rattle.waff_figures.proofs.WorstLaws.{worst_is_one}
use Rattle.waff_figures.proofs.worst.worst_is_one.Goals as goal

pub returns : goal.returns
returns c = record { equal = worst_is_one }
