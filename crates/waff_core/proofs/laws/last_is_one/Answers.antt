use Rattle.waff_core.proofs.Determined.{last_is_one}
use Rattle.waff_core.proofs.laws.last_is_one.Goals as goal

pub returns : goal.returns
returns c = last_is_one
