use Rattle.waff_run.proofs.Again.{first_is_one}
use Rattle.waff_run.proofs.laws.first_of_two_is_one.Goals as goal

pub returns : goal.returns
returns c = λ files. first_is_one files
