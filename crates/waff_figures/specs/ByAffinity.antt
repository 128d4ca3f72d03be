-- Where the time goes, by affinity.
use Rattle.std.specs.Prelude.{◌≡◌, ℕ, ◌+◌, ◌==◌, ◌<◌, ◌↔◌, Bool, IsTrue, true, false, List, [], ◌∷◌, ◌++◌, Option, Some}
use Rattle.std.specs.Prelude.{None, length, map, slice_index, slice_index_or, codes, decimal}
use Rattle.std.specs.List.{range_with_len}
use Rattle.waff_model.specs.Tree.{Node, AtOrAbove, name_of, parent_of}
use Rattle.waff_assign.specs.Held.{Held}
use Rattle.waff_assign.specs.Order.{affinity_of, held_of, number_or}
use Rattle.waff_plan.specs.Work.{Work, IsNumber, length_of, numbers}
use Rattle.waff_figures.specs.Parts.{no_part, part_fields, part_names}
use Rattle.waff_figures.specs.Tally.{cost_among, no_tally, tally_of}
use Rattle.waff_figures.specs.declared.grouping.Columns.{Columns}
use Rattle.waff_figures.specs.declared.grouping.Columns.TheVariants.{Costs, Figures}
use Rattle.waff_figures.specs.declared.parts.PartFigures.{PartFigures}
use Rattle.waff_figures.specs.declared.tally.Tally.{Tally}

-- the number of the affinity of message m, and where it has none the number of the affinities, which is behind them all
abbrev pub affinity_number : List Node → List Held → ℕ → ℕ
affinity_number tree assigned m = number_or (length tree) (held_of assigned m)

-- these numbers: of all affinities, and that of none
abbrev pub affinity_numbers : List Node → List ℕ
affinity_numbers tree = range_with_len 0 (length tree + 1)

-- whether message m runs in the affinity of this number
abbrev pub runs_in : List Node → List Held → ℕ → ℕ → Bool
runs_in tree assigned a m = affinity_number tree assigned m == a

-- message m runs in the affinity a or below it
abbrev pub RunsBelow : List Node → List Held → ℕ → ℕ → Type 0
RunsBelow tree assigned a m =
    (b : ℕ) × (affinity_of assigned m ≡ Some b) × AtOrAbove tree a b

-- the sum of the costs of the messages that do
pub record IsCostBelow (tree : List Node)
    (assigned : List Held) (work : Work) (a cost : ℕ) : Type 0 where
  pub is_below : ℕ → Bool
  pub tells : (m : ℕ) → IsNumber work m → IsTrue (is_below m) ↔ RunsBelow tree assigned a m
  pub sum : cost ≡ cost_among work is_below (numbers work)

-- the same of each affinity of the tree, as a list by affinity
abbrev pub AreCostsBelow : List Node → List Held → Work → List ℕ → Type 0
AreCostsBelow tree assigned work below =
    (a : ℕ) → a < length tree → IsCostBelow tree assigned work a (slice_index below a)

abbrev pub affinities_header : List (List ℕ)
affinities_header =
    codes "affinity" ∷ codes "parent" ∷ codes "messages"
    ∷ codes "cost" ∷ codes "below" ∷ codes "chain" ∷ []

-- the name of an affinity's parent, `-` for the root
abbrev pub parent_field : List Node → Option ℕ → List ℕ
parent_field tree None = codes "-"
parent_field tree (Some parent) = name_of tree parent

-- a line: the names, how many messages run in the affinity, the sums of their costs, of those at or
-- below it, and of those on the chain
abbrev pub tally_row : List ℕ → List ℕ → ℕ → Tally → List (List ℕ)
tally_row name parent below tally =
    name ∷ parent ∷ decimal tally.messages ∷ decimal tally.cost
    ∷ decimal below ∷ decimal tally.chain ∷ []

-- the line of the affinity a
abbrev pub affinity_row : List Node → List Held → Work → List ℕ → List ℕ → ℕ → List (List ℕ)
affinity_row tree assigned work chain below a =
    tally_row (name_of tree a) (parent_field tree (parent_of tree a)) (slice_index below a)
    (tally_of work chain (runs_in tree assigned a))

-- the line of the affinity a with the figures of the messages that run in it, by a list of affinities
abbrev pub affinity_figures_row : List Node → List Held → Work → (ℕ → ℕ) → List ℕ → List ℕ
    → List PartFigures → ℕ → List (List ℕ)
affinity_figures_row tree assigned work start chain below parts a =
    affinity_row tree assigned work chain below a
    ++ part_fields (length_of work start) (tally_of work chain (runs_in tree assigned a))
    (slice_index_or parts a no_part)

-- the line of the messages that have no affinity: below it is what they cost
abbrev pub none_row : Tally → List (List ℕ)
none_row tally = tally_row (codes "-") (codes "-") tally.cost tally

-- with their figures, in a plan of this length
abbrev pub none_figures_row : ℕ → Tally → PartFigures → List (List ℕ)
none_figures_row plan_length tally part = none_row tally ++ part_fields plan_length tally part

-- a line, where the hierarchy has locks
abbrev pub row_where : Bool → List (List ℕ) → List (List (List ℕ))
row_where false row = []
row_where true row = row ∷ []

-- the lines of all affinities, in order, and where the hierarchy has locks that of none
abbrev pub affinities_lines : Columns → Bool → List Node → List Held → Work → (ℕ → ℕ) → List ℕ → List ℕ
    → List PartFigures → List (List (List ℕ))
affinities_lines Costs locks tree assigned work start chain below parts =
    affinities_header
    ∷ map (affinity_row tree assigned work chain below) (range_with_len 0 (length tree))
    ++ row_where locks (none_row (tally_of work chain (runs_in tree assigned (length tree))))
affinities_lines Figures locks tree assigned work start chain below parts =
    (affinities_header ++ part_names)
    ∷ map (affinity_figures_row tree assigned work start chain below parts)
    (range_with_len 0 (length tree))
    ++ row_where locks (none_figures_row (length_of work start)
    (tally_of work chain (runs_in tree assigned (length tree)))
    (slice_index_or parts (length tree) no_part))

-- the line of the affinity a, by a tally and a cost below for each affinity
abbrev pub tallied_row : List Node → List Tally → List ℕ → ℕ → List (List ℕ)
tallied_row tree tallies below a =
    tally_row (name_of tree a) (parent_field tree (parent_of tree a))
    (slice_index below a) (slice_index_or tallies a no_tally)

-- and by the figures of each, in a plan of this length
abbrev pub tallied_figures_row : List Node → ℕ → List Tally → List ℕ → List PartFigures → ℕ
    → List (List ℕ)
tallied_figures_row tree plan_length tallies below parts a =
    tallied_row tree tallies below a
    ++ part_fields plan_length (slice_index_or tallies a no_tally) (slice_index_or parts a no_part)
