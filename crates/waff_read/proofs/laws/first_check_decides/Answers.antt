use Rattle.waff_read.proofs.RefusedLaws.{first_check_decides}
use Rattle.waff_read.proofs.laws.first_check_decides.Goals as goal

pub returns : goal.returns
returns c = λ bytes. first_check_decides bytes
