-- The state of all cells, as a row of numbers for each space.
use Rattle.std.specs.Prelude.{◌≡◌, ℕ, List, [], length, map, slice_index_or}
use Rattle.waff_model.specs.declared.cell.Cell.{Cell}
use Rattle.waff_cells.specs.Meaning.{Cells}

-- the number that each cell holds, 0 where there is no such cell
abbrev pub cells_in : List (List ℕ) → Cells
cells_in rows = λ cell. slice_index_or (slice_index_or rows cell.space []) cell.index 0

-- the rows have these sizes
abbrev pub HasSizes : List (List ℕ) → List ℕ → Type 0
HasSizes rows sizes = map length rows ≡ sizes

-- the rows are the state of these sizes that holds these numbers
pub record IsState (sizes : List ℕ) (cells : Cells) (rows : List (List ℕ)) : Type 0 where
  pub sized : HasSizes rows sizes
  pub holds : (cell : Cell) → cells_in rows cell ≡ cells cell
