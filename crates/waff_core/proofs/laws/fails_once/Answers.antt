use Rattle.waff_core.proofs.Determined.{fails_once}
use Rattle.waff_core.proofs.laws.fails_once.Goals as goal

pub returns : goal.returns
returns c = fails_once
