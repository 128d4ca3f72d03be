use Rattle.waff_figures.proofs.BelowLemmas.{IsSummedFrom}
use Rattle.waff_figures.proofs.below.sum_up.Given as goal

abbrev pub invariant-loop-a : goal.invariant-loop-a
invariant-loop-a l = IsSummedFrom l.tree l.fn.sums l.sums l.a
