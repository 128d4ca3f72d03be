-- The footprint of a message, as a list.
use Rattle.std.specs.Prelude.{◌≡◌, ℕ, ◌-◌, ◌↔◌, ◌==◌, ◌&&◌, Bool, List, Some, Contains}
use Rattle.std.specs.Prelude.{slice_get}
use Rattle.std.specs.Ordering.{nat_cmp, ordering_then}
use Rattle.std.specs.declared.cmp.Ordering.{Ordering}
use Rattle.std.specs.List.Sorted.{IsStrictlySortedBy}
use Rattle.waff_model.specs.declared.cell.Cell.{Cell}
use Rattle.waff_model.specs.declared.message.Message.{Message}
use Rattle.waff_model.specs.Cells.{cells_of}
use Rattle.waff_model.specs.declared.op.Op.{Op}

-- the footprint of operations: the set of the cells that they name
abbrev pub IsInFootprint : List Op → Cell → Type 0
IsInFootprint ops cell = Contains (cells_of ops) cell

-- the order of cells: by space, then index
abbrev pub cell_cmp : Cell → Cell → Ordering
cell_cmp one other = ordering_then (nat_cmp one.space other.space) (nat_cmp one.index other.index)

-- the test of equal cells
abbrev pub cell_eq : Cell → Cell → Bool
cell_eq one other = (one.space == other.space) && (one.index == other.index)

-- the cells of the footprint of message n, each once, in order
pub record ListsFootprint (messages : List Message) (n : ℕ) (cells : List Cell) : Type 0 where
  pub each : (message : Message) → slice_get messages (n - 1) ≡ Some message
      → (cell : Cell) → Contains cells cell ↔ IsInFootprint message.ops cell
  pub rising : IsStrictlySortedBy cell_cmp cells
