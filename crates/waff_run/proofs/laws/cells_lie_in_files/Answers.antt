use Rattle.waff_run.proofs.Lying.{lies_within}
use Rattle.waff_run.proofs.laws.cells_lie_in_files.Goals as goal

pub returns : goal.returns
returns c = λ layout bytes. lies_within layout bytes
