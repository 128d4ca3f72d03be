-- The locks by which messages wait for one another.
use Rattle.std.specs.Prelude.{◌≡◌, ℕ, ◌-◌, ◌≤◌, ◌⊎◌, List, length, Option, None, Some, option_and_then, option_map, slice_get}
use Rattle.std.specs.Prelude.{slice_index_or}
use Rattle.waff_model.specs.Tree.{Node}
use Rattle.waff_model.specs.declared.cell.Cell.{Cell}
use Rattle.waff_assign.specs.Held.{ExcludeByAffinities, Held, IsFirstOfContended}
use Rattle.waff_assign.specs.Order.{held_of}

-- the lock by which two messages exclude each other: none where they do so by their affinities, or contend for none;
-- else the first for which they contend
abbrev pub IsLockBetween : List Node → Held → Held → Option ℕ → Type 0
IsLockBetween tree one other None =
    ExcludeByAffinities tree one other ⊎ IsFirstOfContended one other None
IsLockBetween tree one other (Some lock) =
    ¬ ExcludeByAffinities tree one other × IsFirstOfContended one other (Some lock)

-- the lock by which message m waits for another one; none where it waits for none
abbrev pub IsBy : List Node → List Held → ℕ → Option ℕ → Option ℕ → Type 0
IsBy tree assigned m None by = by ≡ None
IsBy tree assigned m (Some i) by =
    IsLockBetween tree (held_of assigned i) (held_of assigned m) by

-- that of each message, where a list has for each message the one that it waited for
abbrev pub AreBy : List Node → List Held → List (Option ℕ) → List (Option ℕ) → Type 0
AreBy tree assigned waited locks =
    (m : ℕ) → 1 ≤ m → m ≤ length assigned
    → IsBy tree assigned m (slice_index_or waited (m - 1) None) (slice_index_or locks (m - 1) None)

-- the cell of a lock, if there is one, by the cells that number the locks
abbrev pub cell_by : List Cell → Option ℕ → Option Cell
cell_by cells by = option_and_then (slice_get cells) by

-- the number of its space
abbrev pub space_by : List Cell → Option ℕ → Option ℕ
space_by cells by = option_map (λ cell. cell.space) (cell_by cells by)
