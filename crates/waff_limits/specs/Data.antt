-- How long messages use each cell, and the cell that they use longest.
use Rattle.std.specs.Prelude.{◌≡◌, ℕ, ◌<◌, ◌≤◌, ◌⊎◌, ◌+◌, ◌==◌, ◌&&◌, Bool, false, if◌then◌else◌, List, sum_by, Option, Some, None}
use Rattle.std.specs.List.{list_any}
use Rattle.waff_model.specs.Cells.{cells_of}
use Rattle.waff_model.specs.declared.cell.Cell.{Cell}
use Rattle.waff_model.specs.declared.message.Message.{Message}
use Rattle.waff_limits.specs.declared.data.CellUse.{CellUse}

-- whether two cells are the same
abbrev pub is_cell : Cell → Cell → Bool
is_cell cell other = (cell.space == other.space) && (cell.index == other.index)

-- the cost of a message, if its footprint has the cell
abbrev pub cost_on : Cell → Message → ℕ
cost_on cell message = if list_any (is_cell cell) (cells_of message.ops) then message.cost else 0

-- how many ticks messages use the cell
abbrev pub ticks_on : List Message → Cell → ℕ
ticks_on messages cell = sum_by (cost_on cell) messages

-- a cell comes before another: by its space, then its index
abbrev pub ComesBefore : Cell → Cell → Type 0
ComesBefore cell other = (cell.space < other.space) ⊎ ((cell.space ≡ other.space) × (cell.index < other.index))

-- of the cells that are used for so many ticks each the first of those that are used longest
pub record IsMost (used : Cell → ℕ) (found : CellUse) : Type 0 where
  pub some : 1 ≤ found.ticks
  pub ticks : used found.cell ≡ found.ticks
  pub most : (cell : Cell) → used cell ≤ found.ticks
  pub first : (cell : Cell) → used cell ≡ found.ticks → is_cell found.cell cell ≡ false → ComesBefore found.cell cell

-- it, where a cell is used
abbrev pub IsMostOf : (Cell → ℕ) → Option CellUse → Type 0
IsMostOf used None = (cell : Cell) → used cell ≡ 0
IsMostOf used (Some found) = IsMost used found

-- the cell is used for so many ticks in all, and each other as long as before
pub record IsNow (used : Cell → ℕ) (cell : Cell) (ticks : ℕ) (next : Cell → ℕ) : Type 0 where
  pub here : next cell ≡ ticks
  pub others : (other : Cell) → is_cell cell other ≡ false → next other ≡ used other

-- the cell is used for so many ticks more
abbrev pub IsMore : (Cell → ℕ) → Cell → ℕ → (Cell → ℕ) → Type 0
IsMore used cell ticks = IsNow used cell (used cell + ticks)

-- the ticks of a cell, and so many more where it is one of these
abbrev pub used_among : List Cell → (Cell → ℕ) → ℕ → Cell → ℕ
used_among cells used ticks cell = used cell + (if list_any (is_cell cell) cells then ticks else 0)
