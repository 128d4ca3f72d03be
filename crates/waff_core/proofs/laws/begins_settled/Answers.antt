use Rattle.waff_core.proofs.Arrival.{begins_settled}
use Rattle.waff_core.proofs.laws.begins_settled.Goals as goal

pub returns : goal.returns
returns c = begins_settled
