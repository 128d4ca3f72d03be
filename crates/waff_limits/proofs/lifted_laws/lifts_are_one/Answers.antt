use Rattle.waff_limits.proofs.LiftedLists.{lifts_are_one}
use Rattle.waff_limits.proofs.lifted_laws.lifts_are_one.Goals as goal

pub returns : goal.returns
returns c = record { equal = lifts_are_one }
