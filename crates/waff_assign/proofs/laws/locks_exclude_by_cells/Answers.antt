use Rattle.waff_assign.proofs.MoreLocks.{all_locked_meet}
use Rattle.waff_assign.proofs.laws.locks_exclude_by_cells.Goals as goal

pub returns : goal.returns
returns c = record { meet = all_locked_meet }
