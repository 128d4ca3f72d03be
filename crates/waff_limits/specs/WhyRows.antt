-- Messages that run high told together: those that are alike and that owners of the same two affinities lift.
use Rattle.std.specs.Prelude.{◌≡◌, ℕ, ◌+◌, ◌-◌, ◌<◌, ◌⊎◌, ◌==◌, ◌&&◌, Bool, true, false, List, [], ◌∷◌, ◌++◌, AllPairs}
use Rattle.std.specs.Prelude.{length, map, slice_index_or, slice_set, sum_by}
use Rattle.std.specs.List.{filter}
use Rattle.std.specs.List.Sorted.{IsPermutation}
use Rattle.waff_model.specs.Layout.{Space, owner_of}
use Rattle.waff_figures.specs.Groups.{firsts_by}
use Rattle.waff_figures.specs.WaitRows as waits
use Rattle.waff_limits.specs.declared.lifted.Lift.{Lift}
use Rattle.waff_limits.specs.declared.why_rows.Row.{Row}

-- whether two lifts are of one kind: their messages are alike, and their cells have the same owners
abbrev pub same_kind : (ℕ → ℕ → Bool) → List Space → Lift → Lift → Bool
same_kind alike spaces one other =
    alike one.message other.message
    && ((owner_of spaces one.cell == owner_of spaces other.cell)
    && (owner_of spaces one.other == owner_of spaces other.other))

-- the row of these lifts: how many there are, and the sum of their costs
abbrev pub row_over : List Lift → Lift → Row
row_over lifts first = record {
  first = first;
  messages = length lifts;
  cost = sum_by (λ lift. lift.cost) lifts;
}

-- the row of all lifts that are like this one
abbrev pub row_of : (Lift → Lift → Bool) → List Lift → Lift → Row
row_of alike lifts first = row_over (filter (alike first) lifts) first

-- a row for each kind of lifts, in the order of their first ones
abbrev pub rows_by : (Lift → Lift → Bool) → List Lift → List Row
rows_by alike lifts = map (row_of alike lifts) (firsts_by alike lifts)

-- the one row costs more, or as much and its first message has the lower number
abbrev pub StandsBefore : Row → Row → Type 0
StandsBefore one other =
    (other.cost < one.cost)
    ⊎ ((one.cost ≡ other.cost) × (one.first.message < other.first.message))

-- these rows, the most cost first
pub record AreRows (alike : Lift → Lift → Bool) (lifts : List Lift) (rows : List Row) : Type 0 where
  pub are : IsPermutation (rows_by alike lifts) rows
  pub order : AllPairs StandsBefore rows

-- the row with one lift more
abbrev pub row_with : Row → Lift → Row
row_with row lift = record {
  first = row.first;
  messages = row.messages + 1;
  cost = row.cost + lift.cost;
}

-- the rows with one lift more: in the row at this place, or in a new row that comes last
abbrev pub rows_with : List Row → ℕ → Bool → Lift → List Row
rows_with rows place true lift = rows ++ row_over (lift ∷ []) lift ∷ []
rows_with rows place false lift =
    slice_set rows place (row_with (slice_index_or rows place (row_over [] lift)) lift)

-- the group of a lift's message, by a list of groups, and the owners of its cells
abbrev pub kind_in : List (ℕ × ℕ) → List Space → Lift → (ℕ × ℕ) × (ℕ × ℕ)
kind_in groups spaces lift =
    (slice_index_or groups (lift.message - 1) (0, 0), (owner_of spaces lift.cell, owner_of spaces lift.other))

-- whether two lifts are of one kind, where the messages of one group are alike
abbrev pub same_group : List (ℕ × ℕ) → List Space → Lift → Lift → Bool
same_group groups spaces = same_kind (waits.same_group groups) spaces
