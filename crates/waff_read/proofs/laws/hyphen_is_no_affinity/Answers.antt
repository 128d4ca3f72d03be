use Rattle.waff_read.proofs.LockLaws.{hyphen_is_no_affinity}
use Rattle.waff_read.proofs.laws.hyphen_is_no_affinity.Goals as goal

pub returns : goal.returns
returns c = λ bytes layout. hyphen_is_no_affinity bytes layout
