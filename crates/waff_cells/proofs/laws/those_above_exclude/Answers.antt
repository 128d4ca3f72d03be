use Rattle.waff_cells.proofs.MeaningLaws.{exclude_at_one}
use Rattle.waff_cells.proofs.laws.those_above_exclude.Goals as goal

pub returns : goal.returns
returns c = exclude_at_one
