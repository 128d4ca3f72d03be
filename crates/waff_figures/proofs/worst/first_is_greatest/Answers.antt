use Rattle.waff_figures.proofs.WorstLaws.{first_is_greatest}
use Rattle.waff_figures.proofs.worst.first_is_greatest.Goals as goal

pub returns : goal.returns
returns c = record { greatest = first_is_greatest }
