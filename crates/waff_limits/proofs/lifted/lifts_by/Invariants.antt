use Rattle.waff_limits.proofs.LiftedLists.{AreBefore}
use Rattle.waff_limits.proofs.lifted.lifts_by.Given as goal

abbrev pub invariant-loop-n : goal.invariant-loop-n
invariant-loop-n l = AreBefore l.laid.layout.now l.laid.case.trace.now.messages l.laid.case.assigned.now l.n l.lifts.items
