-- Cells in a row.
use Rattle.std.specs.Prelude.{◌≡◌, ℕ, ◌+◌, ◌==◌, ◌&&◌, Bool, List, if◌then◌else◌, nat_le}
use Rattle.std.specs.List.{list_any}
use Rattle.waff_model.specs.declared.cell.Cell.{Cell}
use Rattle.waff_limits.specs.Data.{is_cell}
use Rattle.waff_limits.specs.declared.runs.Run.{Run}

-- whether the cell is one of the run
abbrev pub is_in_run : Run → Cell → Bool
is_in_run run cell = (run.space == cell.space) && nat_le run.first cell.index && nat_le cell.index run.last

-- the cells are those of the run
abbrev pub AreOfRun : List Cell → Run → Type 0
AreOfRun cells run = (cell : Cell) → list_any (is_cell cell) cells ≡ is_in_run run cell

-- the ticks of a cell, and so many more where it is one of the run
abbrev pub used_in_run : Run → (Cell → ℕ) → ℕ → Cell → ℕ
used_in_run run used ticks cell = used cell + (if is_in_run run cell then ticks else 0)
