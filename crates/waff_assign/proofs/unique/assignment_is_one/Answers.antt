use Rattle.waff_assign.proofs.Uniqueness.{assignment_is_one}
use Rattle.waff_assign.proofs.unique.assignment_is_one.Goals as goal

pub returns : goal.returns
returns c = record { equal = assignment_is_one }
