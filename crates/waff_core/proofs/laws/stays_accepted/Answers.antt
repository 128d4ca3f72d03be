use Rattle.waff_core.proofs.Determined.{stays_accepted}
use Rattle.waff_core.proofs.laws.stays_accepted.Goals as goal

pub returns : goal.returns
returns c = stays_accepted
