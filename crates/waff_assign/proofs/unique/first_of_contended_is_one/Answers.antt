use Rattle.waff_assign.proofs.Contentions.{first_is_one}
use Rattle.waff_assign.proofs.unique.first_of_contended_is_one.Goals as goal

pub returns : goal.returns
returns c = record { equal = first_is_one }
