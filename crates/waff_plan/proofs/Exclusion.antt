-- Messages that exclude each other.
use Rattle.std.proofs.Common.{List}
use Rattle.waff_model.specs.Tree.{Node}
use Rattle.waff_assign.specs.Held.{ExcludeEachOther, Held}
use Rattle.waff_assign.proofs.Holding.{exclude_sym}

-- each of two excludes the other
pub excludes_back : (tree : List Node) (one other : Held) → ExcludeEachOther tree one other → ExcludeEachOther tree other one
excludes_back tree one other excludes = exclude_sym tree one other excludes
