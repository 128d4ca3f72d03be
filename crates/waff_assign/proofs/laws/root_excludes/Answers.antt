use Rattle.waff_assign.proofs.Holding.{root_excludes}
use Rattle.waff_assign.proofs.laws.root_excludes.Goals as goal

pub returns : goal.returns
returns c = record { every = root_excludes }
