use Rattle.std.proofs.Common.{◌<◌, length, take}
use Rattle.waff_assign.specs.Lowest.{IsInFootprint, IsLowest}
use Rattle.waff_assign.proofs.assignment.lowest_of_ops.Given as goal

abbrev pub invariant-loop-index : goal.invariant-loop-index
invariant-loop-index l = record {
  lowest : IsLowest l.layout (IsInFootprint (take l.index l.ops)) l.low.0;
  within : l.low.0 < length l.layout.tree;
}
