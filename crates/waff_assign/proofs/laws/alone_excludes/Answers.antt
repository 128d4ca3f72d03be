use Rattle.waff_assign.proofs.Holding.{alone_excludes}
use Rattle.waff_assign.proofs.laws.alone_excludes.Goals as goal

pub returns : goal.returns
returns c = record { every = alone_excludes }
