use Rattle.waff_core.proofs.Marking.{AreLeft}
use Rattle.waff_core.proofs.owner_set.unmark.Given as goal

abbrev pub invariant-loop-at : goal.invariant-loop-at
invariant-loop-at l = AreLeft l.marks l.owners l.at
