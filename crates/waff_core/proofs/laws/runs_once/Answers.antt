use Rattle.waff_core.proofs.Determined.{runs_once}
use Rattle.waff_core.proofs.laws.runs_once.Goals as goal

pub returns : goal.returns
returns c = runs_once
