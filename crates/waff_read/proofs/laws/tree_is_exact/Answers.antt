use Rattle.waff_read.proofs.AffinityLaws.{tree_is_exact}
use Rattle.waff_read.proofs.laws.tree_is_exact.Goals as goal

pub returns : goal.returns
returns c = λ rows. tree_is_exact rows
