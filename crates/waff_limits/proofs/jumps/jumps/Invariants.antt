use Rattle.waff_limits.specs.Jumps.{AreJumpsTo}
use Rattle.waff_limits.proofs.jumps.jumps.Given as goal

abbrev pub invariant-loop-b : goal.invariant-loop-b
invariant-loop-b l = AreJumpsTo l.tree l.jumps.items l.b
