use Rattle.waff_read.proofs.LockLaws.{locks_are_of_format_3}
use Rattle.waff_read.proofs.laws.locks_are_of_format_3.Goals as goal

pub returns : goal.returns
returns c = λ bytes layout. locks_are_of_format_3 bytes layout
