use Rattle.waff_run.proofs.Sharing.{common_cells_are_read}
use Rattle.waff_run.proofs.laws.common_cells_are_read.Goals as goal

pub returns : goal.returns
returns c = λ layout. common_cells_are_read layout
