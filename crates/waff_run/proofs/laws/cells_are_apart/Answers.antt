use Rattle.waff_run.proofs.Lying.{apart}
use Rattle.waff_run.proofs.laws.cells_are_apart.Goals as goal

pub returns : goal.returns
returns c = λ layout bytes. apart layout bytes
