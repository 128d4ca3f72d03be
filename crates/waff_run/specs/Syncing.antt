-- Which files are synced at the end of a message.
use Rattle.std.specs.Prelude.{◌↔◌, ℕ, List, [], ◌∷◌, Contains, map, flat_map}
use Rattle.std.specs.Ordering.{nat_cmp}
use Rattle.std.specs.List.Sorted.{IsStrictlySortedBy}
use Rattle.waff_model.specs.Cells.{cells_of_op}
use Rattle.waff_model.specs.declared.cell.Cell.{Cell}
use Rattle.waff_model.specs.declared.op.Op.{Op}
use Rattle.waff_model.specs.declared.op.Op.TheVariants.{Add, Copy, Read, Set, Swap}
use Rattle.waff_run.specs.Places.{Placing, spot_of}
use Rattle.waff_run.specs.declared.syncing.Syncs.{Syncs}
use Rattle.waff_run.specs.declared.syncing.Syncs.TheVariants as syncs

-- the cells that an operation writes
abbrev pub cells_written : Op → List Cell
cells_written (Set cell value) = cell ∷ []
cells_written (Add cell value) = cell ∷ []
cells_written (Copy cell source) = cell ∷ []
cells_written (Swap cell other) = cell ∷ other ∷ []
cells_written (Read cell) = []

-- the cells of an operation whose files are synced
abbrev pub cells_synced : Syncs → Op → List Cell
cells_synced syncs.None op = []
cells_synced syncs.Written op = cells_written op
cells_synced syncs.All op = cells_of_op op

-- the files in which cells lie
abbrev pub files_with : Placing → List Cell → List ℕ
files_with placing cells = map (λ cell. (spot_of placing cell).file) cells

-- the files in which the cells of operations lie that are synced
abbrev pub files_synced : Placing → Syncs → List Op → List ℕ
files_synced placing which ops = files_with placing (flat_map (cells_synced which) ops)

-- these numbers, each once, in order
pub record ListsOnce (numbers once : List ℕ) : Type 0 where
  pub each : (n : ℕ) → Contains once n ↔ Contains numbers n
  pub rising : IsStrictlySortedBy nat_cmp once
