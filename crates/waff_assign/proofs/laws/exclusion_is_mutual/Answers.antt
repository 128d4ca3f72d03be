use Rattle.waff_assign.proofs.Holding.{exclude_sym}
use Rattle.waff_assign.proofs.laws.exclusion_is_mutual.Goals as goal

pub returns : goal.returns
returns c = record { both = exclude_sym }
