use Rattle.waff_order.proofs.CarryLemmas.{IsCarried}
use Rattle.waff_order.proofs.lowests.agree.Given as goal

abbrev pub invariant-loop-a : goal.invariant-loop-a
invariant-loop-a l = IsCarried l.tree l.coarse_tree l.fn.lowests l.a l.lowests
