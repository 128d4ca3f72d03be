use Rattle.waff_read.proofs.FaultLaws.{first_fault_decides}
use Rattle.waff_read.proofs.laws.first_fault_decides.Goals as goal

pub returns : goal.returns
returns c = λ newest spaces bytes. first_fault_decides newest spaces bytes
