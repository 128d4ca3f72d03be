use Rattle.waff_read.proofs.HierarchyLaws.{classical_has_two_levels}
use Rattle.waff_read.proofs.laws.classical_has_two_levels.Goals as goal

pub returns : goal.returns
returns c = λ bytes layout. classical_has_two_levels bytes layout
