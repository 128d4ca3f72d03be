use Rattle.waff_core.proofs.Arrival.{draws_are_few}
use Rattle.waff_core.proofs.laws.draws_are_few.Goals as goal

pub returns : goal.returns
returns c = draws_are_few
