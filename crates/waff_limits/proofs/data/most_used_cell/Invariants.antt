use Rattle.std.proofs.Common.{◌-◌, take}
use Rattle.waff_limits.specs.Data.{ticks_on}
use Rattle.waff_limits.specs.Edges.{AreUsed, edges_of}
use Rattle.waff_limits.proofs.data.most_used_cell.Given as goal

abbrev pub invariant-loop-n : goal.invariant-loop-n
invariant-loop-n l = AreUsed (edges_of l.edges) (ticks_on (take (l.n - 1) l.trace.messages))
