use Rattle.waff_cells.proofs.MeaningLaws.{rows_are_one}
use Rattle.waff_cells.proofs.laws.state_is_one.Goals as goal

pub returns : goal.returns
returns c = rows_are_one
