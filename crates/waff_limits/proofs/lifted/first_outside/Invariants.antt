use Rattle.std.proofs.Common.{option_map, take}
use Rattle.waff_model.specs.Cells.{cells_of}
use Rattle.waff_limits.specs.Lifted.{IsFirstAmong, IsOutside}
use Rattle.waff_limits.proofs.lifted.first_outside.Given as goal

abbrev pub invariant-loop-index : goal.invariant-loop-index
invariant-loop-index l = IsFirstAmong (cells_of (take l.index l.ops)) (IsOutside l.layout (option_map (λ a. a.0) l.below)) l.first
