use Rattle.waff_assign.proofs.Knowing.{unlocked_known}
use Rattle.waff_assign.proofs.laws.unlocked_without_locks.Goals as goal

pub returns : goal.returns
returns c = record { unlocked = unlocked_known }
