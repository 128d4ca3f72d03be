use Rattle.waff_cells.proofs.MeaningLaws.{meaning_other}
use Rattle.waff_cells.proofs.laws.other_cells_stay.Goals as goal

pub returns : goal.returns
returns c = meaning_other
