use Rattle.waff_assign.proofs.Holding.{exclude_unlocked}
use Rattle.waff_assign.proofs.laws.exclusion_without_locks.Goals as goal

pub returns : goal.returns
returns c = record { affinities = exclude_unlocked }
