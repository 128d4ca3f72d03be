use Rattle.waff_cells.proofs.MeaningLaws.{meaning_agree}
use Rattle.waff_cells.proofs.laws.named_cells_decide.Goals as goal

pub returns : goal.returns
returns c = meaning_agree
