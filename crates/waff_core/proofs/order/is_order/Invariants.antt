use Rattle.waff_core.proofs.Ordering.{IsOrderUpTo}
use Rattle.waff_core.proofs.order.is_order.Given as goal

abbrev pub invariant-loop-place : goal.invariant-loop-place
invariant-loop-place l = IsOrderUpTo l.needs l.order l.marks.items l.place
