use Rattle.std.proofs.Common.{◌+◌, ◌-◌, length}
use Rattle.waff_assign.proofs.Contentions.{AreAhead}
use Rattle.waff_assign.proofs.order.first_contended.Given as goal

abbrev pub invariant-loop-at : goal.invariant-loop-at
invariant-loop-at l = AreAhead l.uses l.others l.at l.other

abbrev pub decreases-loop-at : goal.decreases-loop-at
decreases-loop-at l = (length l.uses - l.at) + (length l.others - l.other)
