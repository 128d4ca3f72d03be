use Rattle.waff_core.proofs.Following.{cells_follow}
use Rattle.waff_core.proofs.laws.cells_follow.Goals as goal

pub returns : goal.returns
returns c = cells_follow
