use Rattle.waff_assign.proofs.CommonCells.{common_cell_excludes}
use Rattle.waff_assign.proofs.laws.common_cell_excludes.Goals as goal

pub returns : goal.returns
returns c = record { excludes = common_cell_excludes }
