use Rattle.std.proofs.Common.{length}
use Rattle.waff_limits.specs.Edges.{edges_of}
use Rattle.waff_limits.proofs.Skyline.{AreLaying}
use Rattle.waff_limits.proofs.readings.lay_until.Given as goal

abbrev pub invariant-loop-cost : goal.invariant-loop-cost
invariant-loop-cost l = AreLaying (edges_of l.initial.edges) (edges_of l.edges) l.initial.going l.going l.from l.at l.end

abbrev pub decreases-loop-cost : goal.decreases-loop-cost
decreases-loop-cost l = length l.going
