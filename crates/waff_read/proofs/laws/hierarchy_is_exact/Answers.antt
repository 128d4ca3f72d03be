use Rattle.waff_read.proofs.HierarchyLaws.{hierarchy_is_exact}
use Rattle.waff_read.proofs.laws.hierarchy_is_exact.Goals as goal

pub returns : goal.returns
returns c = λ bytes layout. hierarchy_is_exact bytes layout
