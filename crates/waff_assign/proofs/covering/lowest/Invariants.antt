use Rattle.waff_assign.proofs.Coverings.{IsLowestSoFar}
use Rattle.waff_assign.proofs.covering.lowest.Given as goal

abbrev pub invariant-loop-i : goal.invariant-loop-i
invariant-loop-i l = IsLowestSoFar l.layout l.cells l.i l.low.0
