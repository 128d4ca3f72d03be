use Rattle.waff_assign.proofs.Uniqueness.{lowest_is_one}
use Rattle.waff_assign.proofs.unique.lowest_is_one.Goals as goal

pub returns : goal.returns
returns c = record { equal = lowest_is_one }
