use Rattle.waff_run.proofs.Ones.{spots_one}
use Rattle.waff_run.proofs.laws.spots_are_one.Goals as goal

pub returns : goal.returns
returns c = λ placing cells. spots_one placing cells
