-- The uses of locks by operations, in the order in which these name the cells, and each lock once.
use Rattle.std.specs.Prelude.{ℕ, ◌+◌, ◌*◌, ◌≤◌, ◌++◌, ◌&&◌, Bool, true, false, not, if◌then◌else◌, nat_le, List, [], ◌∷◌}
use Rattle.std.specs.Prelude.{length, slice_range, ◌↔◌, Contains}
use Rattle.std.specs.List.{filter, flat_map, position_or_len}
use Rattle.std.specs.List.Sorted.{IsStrictlySortedBy}
use Rattle.waff_model.specs.Cells.{cells_of, cells_written_by}
use Rattle.waff_model.specs.Layout.{Space, are_locked, locking_of}
use Rattle.waff_model.specs.declared.cell.Cell.{Cell}
use Rattle.waff_model.specs.declared.limits.TheConstants.{MAX_ALL_OPS}
use Rattle.waff_model.specs.declared.locking.Locking.{Locking}
use Rattle.waff_model.specs.declared.locking.Locking.TheVariants.{Unlocked, Exclusive, Shared}
use Rattle.waff_model.specs.declared.message.Message.{Message}
use Rattle.waff_model.specs.declared.op.Op.{Op}
use Rattle.waff_model.specs.declared.op.Op.TheVariants.{Set, Add, Copy, Swap, Read}
use Rattle.waff_assign.specs.Footprint.{cell_cmp, cell_eq}
use Rattle.waff_assign.specs.declared.held.LockUse.{LockUse}
use Rattle.waff_assign.specs.declared.uses.Seen.{Seen}

-- the cell has a lock
abbrev pub is_locked : List Space → Cell → Bool
is_locked spaces cell = are_locked (locking_of spaces cell)

-- the cells with locks that operations name, and those that messages name
abbrev pub locked_cells : List Space → List Cell → List Cell
locked_cells spaces cells = filter (is_locked spaces) cells

abbrev pub all_locked_cells : List Space → List Message → List Cell
all_locked_cells spaces messages = flat_map (λ message. locked_cells spaces (cells_of message.ops)) messages

-- those of the messages behind the first so many, up to the end
abbrev pub locked_cells_between : List Space → List Message → ℕ → ℕ → List Cell
locked_cells_between spaces messages before end = all_locked_cells spaces (slice_range messages before end)

-- the number of a lock: the place of its cell
abbrev pub number_in : List Cell → Cell → ℕ
number_in locks cell = position_or_len (λ lock. cell_eq lock cell) locks

-- locks are listed by their cells, and there are no more than operations may name
pub record AreLocks (locks : List Cell) : Type 0 where
  pub rising : IsStrictlySortedBy cell_cmp locks
  pub few : length locks ≤ 2 * MAX_ALL_OPS

-- a list has got these cells, or had them, and no others
pub record Adds (before after more : List Cell) : Type 0 where
  pub each : (cell : Cell) → Contains after cell ↔ Contains (before ++ more) cell
  pub few : length after ≤ length before + length more

-- these cells, each once, in order
pub record ListsOnce (named cells : List Cell) : Type 0 where
  pub each : (cell : Cell) → Contains cells cell ↔ Contains named cell
  pub rising : IsStrictlySortedBy cell_cmp cells
  pub few : length cells ≤ length named

-- an operation that only reads the cell shares a lock of this kind
abbrev pub are_shared : Locking → Bool
are_shared Unlocked = false
are_shared Exclusive = false
are_shared Shared = true

-- how an operation that writes the cell, or only reads it, uses its lock
abbrev pub seen_at : List Space → List Cell → Bool → Cell → List Seen
seen_at spaces locks writes cell =
    if is_locked spaces cell
    then record { lock = number_in locks cell; shared = not writes && are_shared (locking_of spaces cell) } ∷ []
    else []

-- the cells that an operation only reads
abbrev pub cells_only_read_by : Op → List Cell
cells_only_read_by (Set cell value) = []
cells_only_read_by (Add cell value) = []
cells_only_read_by (Copy cell source) = source ∷ []
cells_only_read_by (Swap cell other) = []
cells_only_read_by (Read cell) = cell ∷ []

-- the uses of locks by an operation
abbrev pub seen_by : List Space → List Cell → Op → List Seen
seen_by spaces locks op =
    flat_map (seen_at spaces locks true) (cells_written_by op)
    ++ flat_map (seen_at spaces locks false) (cells_only_read_by op)

abbrev pub seen_in : List Space → List Cell → List Op → List Seen
seen_in spaces locks ops = flat_map (seen_by spaces locks) ops

-- the first use of each lock from this number on, of uses in the order of their locks
abbrev pub uses_from : ℕ → List Seen → List LockUse
uses_from next [] = []
uses_from next (seen ∷ more) =
    if nat_le next seen.lock
    then record { lock = seen.lock; alone = not seen.shared } ∷ uses_from (seen.lock + 1) more
    else uses_from next more
