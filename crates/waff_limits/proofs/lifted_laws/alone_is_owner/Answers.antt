use Rattle.waff_limits.proofs.LiftLemmas.{alone_is_owner}
use Rattle.waff_limits.proofs.lifted_laws.alone_is_owner.Goals as goal

pub returns : goal.returns
returns c = alone_is_owner
