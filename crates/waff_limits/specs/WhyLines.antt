-- The lines that tell why messages run so high.
use Rattle.std.specs.Prelude.{ℕ, List, [], ◌∷◌, if◌then◌else◌, map, codes, decimal}
use Rattle.waff_model.specs.Layout.{Hierarchy, owner_of}
use Rattle.waff_read.specs.Spellings.{cell_spelled}
use Rattle.waff_assign.specs.Held.{Held}
use Rattle.waff_assign.specs.Order.{affinity_name}
use Rattle.waff_model.specs.Tree.{name_of}
use Rattle.waff_model.specs.declared.cell.Cell.{Cell}
use Rattle.waff_figures.specs.ByName.{label_at}
use Rattle.waff_figures.specs.declared.grouping.Grouping.{Grouping}
use Rattle.waff_figures.specs.declared.grouping.Grouping.TheVariants.{Affinity, Name}
use Rattle.waff_limits.specs.Data.{is_cell}
use Rattle.waff_limits.specs.declared.lifted.Lift.{Lift}
use Rattle.waff_limits.specs.declared.why_rows.Row.{Row}

-- the first line
abbrev pub why_header : Grouping → List (List ℕ)
why_header Affinity =
    codes "affinity" ∷ codes "first" ∷ codes "second" ∷ codes "messages" ∷ codes "cost"
    ∷ codes "message" ∷ codes "cell" ∷ codes "other" ∷ []
why_header Name =
    codes "affinity" ∷ codes "name" ∷ codes "first" ∷ codes "second" ∷ codes "messages" ∷ codes "cost"
    ∷ codes "message" ∷ codes "cell" ∷ codes "other" ∷ []

-- the name of the owner of a cell
abbrev pub owner_name : Hierarchy → Cell → List ℕ
owner_name layout cell = name_of layout.tree (owner_of layout.spaces cell)

-- the name of the owner of the other cell, and that cell; `-` where the first cell lifts alone
abbrev pub other_owner : Hierarchy → Lift → List ℕ
other_owner layout lift = if is_cell lift.cell lift.other then codes "-" else owner_name layout lift.other

abbrev pub other_cell : Hierarchy → Lift → List ℕ
other_cell layout lift = if is_cell lift.cell lift.other then codes "-" else cell_spelled layout.spaces lift.other

-- the fields of a row behind those of its message: the owners of its two cells, how many messages it is of and their costs, and of the
-- first of them its number and the two cells
abbrev pub lift_fields : Hierarchy → Row → List (List ℕ)
lift_fields layout row =
    owner_name layout row.first.cell ∷ other_owner layout row.first
    ∷ decimal row.messages ∷ decimal row.cost ∷ decimal row.first.message
    ∷ cell_spelled layout.spaces row.first.cell ∷ other_cell layout row.first ∷ []

-- the line of a row: the affinity of its first message, by name its name too, and these fields
abbrev pub why_row : Grouping → Hierarchy → List Held → List (List ℕ) → Row → List (List ℕ)
why_row Affinity layout assigned names row =
    affinity_name layout.tree assigned row.first.message ∷ lift_fields layout row
why_row Name layout assigned names row =
    affinity_name layout.tree assigned row.first.message ∷ label_at names row.first.message
    ∷ lift_fields layout row

-- the lines of the rows
abbrev pub why_lines : Grouping → Hierarchy
    → List Held → List (List ℕ) → List Row → List (List (List ℕ))
why_lines grouping layout assigned names rows =
    why_header grouping ∷ map (why_row grouping layout assigned names) rows
