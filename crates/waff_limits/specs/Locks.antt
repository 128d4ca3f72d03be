-- How long messages need each cell under a hierarchy, and each lock.
use Rattle.std.specs.Prelude.{ℕ, ◌+◌, ◌&&◌, ◌||◌, Bool, false, true, not, if◌then◌else◌, List, length, map, sum_by}
use Rattle.std.specs.List.{list_any, range_with_len}
use Rattle.waff_model.specs.Cells.{cells_of}
use Rattle.waff_model.specs.Layout.{Space, are_locked, locking_of}
use Rattle.waff_model.specs.declared.cell.Cell.{Cell}
use Rattle.waff_model.specs.declared.locking.Locking.{Locking}
use Rattle.waff_model.specs.declared.locking.Locking.TheVariants.{Exclusive, Shared, Unlocked}
use Rattle.waff_model.specs.declared.message.Message.{Message}
use Rattle.waff_model.specs.declared.op.Op.{Op}
use Rattle.waff_assign.specs.Held.{Held}
use Rattle.waff_assign.specs.Order.{affinity_of}
use Rattle.waff_plan.specs.LowerBound.{option_is}
use Rattle.waff_plan.specs.Timetable.{message_of}
use Rattle.waff_plan.specs.Work.{greatest}
use Rattle.waff_limits.specs.Data.{is_cell, ticks_on}
use Rattle.waff_limits.specs.Writes.{ticks_shared, writes}

-- what messages need of a cell by its lock: where they share it to read it, what `writes` sums; else the costs of all that name it
abbrev pub ticks_under : Locking → List Message → Cell → ℕ
ticks_under Unlocked messages cell = ticks_on messages cell
ticks_under Exclusive messages cell = ticks_on messages cell
ticks_under Shared messages cell = ticks_shared messages cell

-- in these spaces
abbrev pub ticks_needed : List Space → List Message → Cell → ℕ
ticks_needed spaces messages cell = ticks_under (locking_of spaces cell) messages cell

-- whether operations name the cell
abbrev pub names : List Op → Cell → Bool
names ops cell = list_any (is_cell cell) (cells_of ops)

-- whether operations use the lock of a cell alone
abbrev pub uses_alone : Locking → List Op → Cell → Bool
uses_alone Unlocked ops cell = false
uses_alone Exclusive ops cell = names ops cell
uses_alone Shared ops cell = writes ops cell

-- whether message n lets no other use the lock: it uses it alone, or runs in the root
abbrev pub keeps : List Space → List Message → List Held → Cell → ℕ → Bool
keeps spaces messages assigned cell n =
    option_is 0 (affinity_of assigned n) || uses_alone (locking_of spaces cell) (message_of messages n).ops cell

-- its cost, if it does; and if it shares the lock
abbrev pub kept_by : List Space → List Message → List Held → Cell → ℕ → ℕ
kept_by spaces messages assigned cell n =
    if keeps spaces messages assigned cell n then (message_of messages n).cost else 0

abbrev pub shared_by : List Space → List Message → List Held → Cell → ℕ → ℕ
shared_by spaces messages assigned cell n =
    if not (keeps spaces messages assigned cell n) && names (message_of messages n).ops cell
    then (message_of messages n).cost else 0

-- what messages need of the lock of a cell: the costs of those that use it alone or run in the root, and the greatest cost of another that
-- shares it; 0 where the cell has no lock, or no message names it
abbrev pub ticks_locked : List Space → List Message → List Held → Cell → ℕ
ticks_locked spaces messages assigned cell =
    if are_locked (locking_of spaces cell) && list_any (λ message. names message.ops cell) messages
    then sum_by (kept_by spaces messages assigned cell) (range_with_len 1 (length messages))
    + greatest (map (shared_by spaces messages assigned cell) (range_with_len 1 (length messages)))
    else 0
