use Rattle.waff_figures.proofs.LocksWaited.{AreBefore}
use Rattle.waff_figures.proofs.wait_locks.locks_waited_for.Given as goal

abbrev pub invariant-loop-n : goal.invariant-loop-n
invariant-loop-n l = AreBefore l.case.tree.now l.case.assigned.now l.waited l.n l.locks.items
