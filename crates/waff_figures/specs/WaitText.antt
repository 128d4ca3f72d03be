-- The lines that tell who waits for whom.
use Rattle.std.specs.Prelude.{ℕ, ◌==◌, ◌&&◌, Bool, false, true, List, [], ◌∷◌, ◌++◌, Option, Some, None, map}
use Rattle.std.specs.Prelude.{codes, decimal, unwrap_or}
use Rattle.std.specs.Option.{option_eq}
use Rattle.waff_model.specs.Layout.{Space, has_locks, name_at as space_name}
use Rattle.waff_model.specs.Tree.{Node}
use Rattle.waff_model.specs.declared.cell.Cell.{Cell}
use Rattle.waff_assign.specs.Held.{Held}
use Rattle.waff_assign.specs.Order.{affinity_name, affinity_of}
use Rattle.waff_figures.specs.ByName.{same_label}
pub use Rattle.waff_figures.specs.ByName.{label_at as name_at}
use Rattle.waff_figures.specs.WaitLocks.{space_by}
use Rattle.waff_figures.specs.declared.grouping.Grouping.{Grouping}
use Rattle.waff_figures.specs.declared.grouping.Grouping.TheVariants.{Affinity, Name}
use Rattle.waff_figures.specs.declared.wait_rows.Row.{Row}

-- whether two messages run in the same affinity, or both in none
abbrev pub same_affinity : List Held → ℕ → ℕ → Bool
same_affinity assigned m n =
    option_eq (λ a b. a == b) (affinity_of assigned m) (affinity_of assigned n)

-- whether two messages are told of together: those of one affinity, by name those of one name and
-- one affinity
abbrev pub are_alike : Grouping → List Held → List (List ℕ) → ℕ → ℕ → Bool
are_alike Affinity assigned names m n = same_affinity assigned m n
are_alike Name assigned names m n =
    same_label names m n && same_affinity assigned m n

-- a field of the message that is waited for, `-` for a worker
abbrev pub for_field : (ℕ → List ℕ) → Option ℕ → List ℕ
for_field field None = codes "-"
for_field field (Some m) = field m

-- the name of the space of a lock, `-` where there is none
abbrev pub by_field : List Space → List Cell → Option ℕ → List ℕ
by_field spaces cells by = for_field (λ s. unwrap_or (space_name spaces s) []) (space_by cells by)

-- a field, where there are locks
abbrev pub field_where : Bool → List ℕ → List (List ℕ)
field_where false field = []
field_where true field = field ∷ []

-- the first line
abbrev pub waits_header : Grouping → Bool → List (List ℕ)
waits_header Affinity locks =
    codes "affinity" ∷ codes "for" ∷ field_where locks (codes "by")
    ++ codes "messages" ∷ codes "ticks" ∷ codes "longest" ∷ []
waits_header Name locks =
    codes "name" ∷ codes "affinity" ∷ codes "forname" ∷ codes "foraffinity" ∷ field_where locks (codes "by")
    ++ codes "messages" ∷ codes "ticks" ∷ codes "longest" ∷ []

-- the line of a row: of the first message that waits so and of the one that it waits for, where there are locks the
-- space of that by which it waits, and then how many wait so, their ticks and the most ticks of one
abbrev pub waits_row : Grouping → List Space → List Cell → List Node → List Held → List (List ℕ) → Row
    → List (List ℕ)
waits_row Affinity spaces cells tree assigned names row =
    affinity_name tree assigned row.first.message
    ∷ for_field (affinity_name tree assigned) row.first.on
    ∷ field_where (has_locks spaces) (by_field spaces cells row.first.by)
    ++ decimal row.messages ∷ decimal row.ticks ∷ decimal row.longest ∷ []
waits_row Name spaces cells tree assigned names row =
    name_at names row.first.message ∷ affinity_name tree assigned row.first.message
    ∷ for_field (name_at names) row.first.on
    ∷ for_field (affinity_name tree assigned) row.first.on
    ∷ field_where (has_locks spaces) (by_field spaces cells row.first.by)
    ++ decimal row.messages ∷ decimal row.ticks ∷ decimal row.longest ∷ []

-- the lines of the rows
abbrev pub waits_lines : Grouping → List Space → List Cell → List Node
    → List Held → List (List ℕ) → List Row → List (List (List ℕ))
waits_lines grouping spaces cells tree assigned names rows =
    waits_header grouping (has_locks spaces)
    ∷ map (waits_row grouping spaces cells tree assigned names) rows
