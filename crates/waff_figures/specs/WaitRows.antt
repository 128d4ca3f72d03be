-- Waits of one kind told in one row.
use Rattle.std.specs.Prelude.{◌≡◌, ℕ, ◌-◌, ◌+◌, ◌<◌, ◌⊎◌, ◌==◌, max, Bool, true, false, ◌&&◌, List, [], ◌∷◌, ◌++◌}
use Rattle.std.specs.Prelude.{Option, filter, length, map, option_map, slice_index_or, slice_set, sum_by}
use Rattle.std.specs.List.{AllPairs}
use Rattle.std.specs.List.Sorted.{IsPermutation}
use Rattle.std.specs.Option.{option_eq}
use Rattle.waff_model.specs.declared.cell.Cell.{Cell}
use Rattle.waff_plan.specs.Work.{greatest}
use Rattle.waff_figures.specs.Groups.{firsts_by}
use Rattle.waff_figures.specs.WaitLocks.{space_by}
use Rattle.waff_figures.specs.Waits.{ComesFirst}
use Rattle.waff_figures.specs.declared.wait_rows.Row.{Row}
use Rattle.waff_figures.specs.declared.waits.Wait.{Wait}

-- whether two waits are of one kind, by the cells that number the locks: their messages are alike, they wait for
-- alike messages or both for a worker, and by locks of cells of one space or both by none
abbrev pub same_kind : (ℕ → ℕ → Bool) → List Cell → Wait → Wait → Bool
same_kind alike cells one other =
    alike one.message other.message
    && (option_eq alike one.on other.on
    && option_eq (λ s t. s == t) (space_by cells one.by) (space_by cells other.by))

-- the row of these waits: how many there are, the sum of their ticks, and the most ticks of one
abbrev pub row_over : List Wait → Wait → Row
row_over waits first = record {
  first = first;
  messages = length waits;
  ticks = sum_by (λ wait. wait.ticks) waits;
  longest = greatest (map (λ wait. wait.ticks) waits);
}

-- the row of all waits that are like this one
abbrev pub row_of : (Wait → Wait → Bool) → List Wait → Wait → Row
row_of alike waits first = row_over (filter (alike first) waits) first

-- a row for each kind of waits, in the order of their first waits
abbrev pub rows_by : (Wait → Wait → Bool) → List Wait → List Row
rows_by alike waits = map (row_of alike waits) (firsts_by alike waits)

-- the one row's first wait comes first
abbrev pub StartsFirst : Row → Row → Type 0
StartsFirst one other = ComesFirst one.first other.first

-- the one row has more ticks, or as many and the earlier first wait
abbrev pub StandsBefore : Row → Row → Type 0
StandsBefore one other =
    (other.ticks < one.ticks) ⊎ ((one.ticks ≡ other.ticks) × StartsFirst one other)

-- these rows, by the most ticks
pub record AreRows (alike : Wait → Wait → Bool) (waits : List Wait) (rows : List Row) : Type 0 where
  pub are : IsPermutation (rows_by alike waits) rows
  pub order : AllPairs StandsBefore rows

-- the group of message n, where the groups are listed in the order of arrival
abbrev pub group_of : List (ℕ × ℕ) → ℕ → ℕ × ℕ
group_of groups n = slice_index_or groups (n - 1) (0, 0)

-- whether two messages are in one group
abbrev pub same_group : List (ℕ × ℕ) → ℕ → ℕ → Bool
same_group groups m n =
    ((group_of groups m).0 == (group_of groups n).0)
    && ((group_of groups m).1 == (group_of groups n).1)

-- the groups of a wait's message and of the one that it waits for, and the space of the lock by which it does
abbrev pub kind_in : List (ℕ × ℕ) → List Cell → Wait → (ℕ × ℕ) × (Option (ℕ × ℕ) × Option ℕ)
kind_in groups cells wait =
    (group_of groups wait.message, (option_map (group_of groups) wait.on, space_by cells wait.by))

-- whether two waits are of one kind, where the messages of one group are alike
abbrev pub same_in : List (ℕ × ℕ) → List Cell → Wait → Wait → Bool
same_in groups cells = same_kind (same_group groups) cells

-- the row with one wait more
abbrev pub row_with : Row → Wait → Row
row_with row wait = record {
  first = row.first;
  messages = row.messages + 1;
  ticks = row.ticks + wait.ticks;
  longest = max row.longest wait.ticks;
}

-- the rows with one wait more: in the row at this place, or in a new row that comes last
abbrev pub rows_with : List Row → ℕ → Bool → Wait → List Row
rows_with rows place true wait = rows ++ row_over (wait ∷ []) wait ∷ []
rows_with rows place false wait =
    slice_set rows place (row_with (slice_index_or rows place (row_over [] wait)) wait)
