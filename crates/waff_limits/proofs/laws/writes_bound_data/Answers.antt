use Rattle.waff_limits.proofs.SharedCells.{writes_below}
use Rattle.waff_limits.proofs.laws.writes_bound_data.Goals as goal

pub returns : goal.returns
returns c = writes_below
