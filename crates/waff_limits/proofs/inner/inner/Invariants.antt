use Rattle.waff_limits.proofs.InnerLemmas.{AreInnerBelow}
use Rattle.waff_limits.proofs.inner.inner.Given as goal

abbrev pub invariant-loop-b : goal.invariant-loop-b
invariant-loop-b l = AreInnerBelow l.tree l.inner.items l.b
