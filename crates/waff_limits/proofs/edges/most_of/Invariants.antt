use Rattle.waff_limits.proofs.WalkLemmas.{IsWalked}
use Rattle.waff_limits.proofs.edges.most_of.Given as goal

abbrev pub invariant-loop-i : goal.invariant-loop-i
invariant-loop-i l = IsWalked l.edges l.i l.begun l.ended l.ending l.most
