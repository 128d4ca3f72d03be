use Rattle.waff_limits.proofs.LiftLemmas.{some_lift}
use Rattle.waff_limits.proofs.lifted_laws.some_cells_lift.Goals as goal

pub returns : goal.returns
returns c = some_lift
