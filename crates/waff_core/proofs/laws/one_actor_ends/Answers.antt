use Rattle.waff_core.proofs.OneActor.{one_actor_ends}
use Rattle.waff_core.proofs.laws.one_actor_ends.Goals as goal

pub returns : goal.returns
returns c = one_actor_ends
