use Rattle.waff_line.proofs.Ending.{can_end}
use Rattle.waff_line.proofs.laws.can_end.Goals as goal

pub returns : goal.returns
returns c = can_end
