use Rattle.std.proofs.Common.{◌<◌, length, take, option_map}
use Rattle.std.specs.Prelude.{IfSome}
use Rattle.waff_model.specs.Cells.{cells_of}
use Rattle.waff_model.specs.declared.tree.AffinityId.{AffinityId}
use Rattle.waff_assign.specs.Lowest.{IsAffinityAmong}
use Rattle.waff_assign.proofs.assignment.lowest_without_locks.Given as goal

abbrev pub invariant-loop-index : goal.invariant-loop-index
invariant-loop-index l = record {
  lowest : IsAffinityAmong l.layout (cells_of (take l.index l.ops)) (option_map (λ (a : AffinityId). a.0) l.low);
  within : IfSome l.low (λ (a : AffinityId). a.0 < length l.layout.tree);
}
