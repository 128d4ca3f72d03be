use Rattle.waff_core.proofs.Arrival.{needs_suffice}
use Rattle.waff_core.proofs.laws.needs_are_enough.Goals as goal

pub returns : goal.returns
returns c = needs_suffice
