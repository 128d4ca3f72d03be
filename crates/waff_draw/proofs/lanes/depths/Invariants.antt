use Rattle.std.proofs.Common.{◌≡◌, length, map}
use Rattle.std.specs.List.{range_with_len}
use Rattle.waff_draw.specs.Lanes.{path_of}
use Rattle.waff_draw.proofs.lanes.depths.Given as goal

abbrev pub invariant-loop-affinity : goal.invariant-loop-affinity
invariant-loop-affinity l = l.depths.items ≡ map (λ a. length (path_of l.tree a)) (range_with_len 0 l.affinity)
