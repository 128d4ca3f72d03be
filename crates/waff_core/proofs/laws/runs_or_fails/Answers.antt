use Rattle.waff_core.proofs.Deciding.{runs_or_fails}
use Rattle.waff_core.proofs.laws.runs_or_fails.Goals as goal

pub returns : goal.returns
returns c = runs_or_fails
