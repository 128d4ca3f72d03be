use Rattle.waff_run.proofs.Ones.{ends_one}
use Rattle.waff_run.proofs.laws.ends_are_one.Goals as goal

pub returns : goal.returns
returns c = λ placing cells. ends_one placing cells
