use Rattle.std.proofs.Common.{ℕ, ◌&&◌, cond, max, not, take}
use Rattle.std.specs.List.{list_any}
use Rattle.waff_model.specs.declared.cell.Cell.{Cell}
use Rattle.waff_limits.specs.Data.{is_cell}
use Rattle.waff_limits.specs.Readings.{AreRead, readings_of}
use Rattle.waff_limits.proofs.readings.Readings.add_others.Given as goal

abbrev pub invariant-loop-at : goal.invariant-loop-at
invariant-loop-at l =
    (peak : Cell → ℕ) → AreRead (readings_of l.initial.self) peak
    → AreRead (readings_of l.self) (λ cell. max (peak cell) (cond (list_any (is_cell cell) (take l.at l.cells) && not (list_any (is_cell cell) l.written)) l.cost 0))
