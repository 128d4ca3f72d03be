use Rattle.waff_run.proofs.Ones.{listed_one}
use Rattle.waff_run.proofs.laws.listed_is_one.Goals as goal

pub returns : goal.returns
returns c = λ numbers. listed_one numbers
