use Rattle.waff_assign.proofs.MoreLocks.{more_locks_exclude_no_more}
use Rattle.waff_assign.proofs.laws.more_locks_exclude_no_more.Goals as goal

pub returns : goal.returns
returns c = record { before = more_locks_exclude_no_more }
