use Rattle.waff_read.proofs.RefusalLaws.{least_check_decides}
use Rattle.waff_read.proofs.laws.least_check_decides.Goals as goal

pub returns : goal.returns
returns c = λ version spaces place columns. least_check_decides version spaces place columns
