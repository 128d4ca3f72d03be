use Rattle.waff_assign.proofs.Knowing.{are_known}
use Rattle.waff_assign.proofs.laws.assignment_is_known.Goals as goal

pub returns : goal.returns
returns c = record { known = are_known }
