use Rattle.waff_order.specs.Lowests.{AreLowests}
use Rattle.waff_order.proofs.lowests.note_messages.Given as goal

abbrev pub invariant-loop-n : goal.invariant-loop-n
invariant-loop-n l = AreLowests l.assigned l.coarse_tree l.coarse_assigned l.n l.lowests
