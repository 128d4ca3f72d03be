use Rattle.waff_check.specs.Searches.{planned_overlaps}
use Rattle.waff_check.proofs.FirstLaws.{NoneBelow}
use Rattle.waff_check.proofs.overlap.second_of.Given as goal

abbrev pub invariant-loop-j : goal.invariant-loop-j
invariant-loop-j l = NoneBelow (planned_overlaps l.planned l.i) l.j
