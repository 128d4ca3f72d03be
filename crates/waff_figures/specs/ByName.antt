-- Where the time goes, by the labels of messages: their names, or their clients.
use Rattle.std.specs.Prelude.{◌≡◌, ℕ, ◌-◌, ◌<◌, ◌≤◌, Bool, List, [], ◌∷◌, ◌++◌, map}
use Rattle.std.specs.Prelude.{slice_index, slice_index_or, codes, decimal, length, take}
use Rattle.std.specs.List.{range_with_len}
use Rattle.std.specs.Str.{bytes_eq}
pub use Rattle.waff_model.specs.DistinctNames.{message_names}
use Rattle.waff_model.specs.DistinctNames.{distinct_names}
use Rattle.waff_model.specs.declared.message.Message.{Message}
use Rattle.waff_plan.specs.Timetable.{clients_of}
use Rattle.waff_plan.specs.Work.{Work, length_of}
use Rattle.waff_figures.specs.Groups.{firsts_by}
use Rattle.waff_figures.specs.Parts.{no_part, part_fields, part_names}
use Rattle.waff_figures.specs.Tally.{no_tally, tally_of}
use Rattle.waff_figures.specs.declared.grouping.Columns.{Columns}
use Rattle.waff_figures.specs.declared.grouping.Columns.TheVariants.{Costs, Figures}
use Rattle.waff_figures.specs.declared.grouping.Label.{Label}
use Rattle.waff_figures.specs.declared.grouping.Label.TheVariants.{Name, Client}
use Rattle.waff_figures.specs.declared.parts.PartFigures.{PartFigures}
use Rattle.waff_figures.specs.declared.tally.Tally.{Tally}

-- the label of a message: its name, or that of its client
abbrev pub label_of : Label → Message → List ℕ
label_of Name message = message.name
label_of Client message = message.client

-- the labels of messages, in the order of arrival
abbrev pub labels_of : Label → List Message → List (List ℕ)
labels_of Name messages = message_names messages
labels_of Client messages = clients_of messages

-- the label of message m
abbrev pub label_at : List (List ℕ) → ℕ → List ℕ
label_at labels m = slice_index_or labels (m - 1) []

-- whether two messages have the same label
abbrev pub same_label : List (List ℕ) → ℕ → ℕ → Bool
same_label labels m n = bytes_eq (label_at labels m) (label_at labels n)

-- the first message of each label, in their order
abbrev pub first_messages : List (List ℕ) → List ℕ
first_messages labels = firsts_by (same_label labels) (range_with_len 1 (length labels))

-- whether message m has this name
abbrev pub is_named : List (List ℕ) → List ℕ → ℕ → Bool
is_named names name m = bytes_eq (label_at names m) name

-- whether message m has the label of this one
abbrev pub has_label : List (List ℕ) → ℕ → ℕ → Bool
has_label labels first = is_named labels (label_at labels first)

-- the first line
abbrev pub label_header : Label → List (List ℕ)
label_header Name = codes "name" ∷ codes "messages" ∷ codes "cost" ∷ codes "chain" ∷ []
label_header Client = codes "client" ∷ codes "messages" ∷ codes "cost" ∷ codes "chain" ∷ []

-- a line: the name, how many messages have it, the sum of their costs, and of those on the chain
abbrev pub named_row : List ℕ → Tally → List (List ℕ)
named_row name tally = name ∷ decimal tally.messages ∷ decimal tally.cost ∷ decimal tally.chain ∷ []

-- the line of a name
abbrev pub name_row : List (List ℕ) → Work → List ℕ → List ℕ → List (List ℕ)
name_row names work chain name = named_row name (tally_of work chain (is_named names name))

-- the line of the messages that have the label of this one
abbrev pub label_row : List (List ℕ) → Work → List ℕ → ℕ → List (List ℕ)
label_row labels work chain first = name_row labels work chain (label_at labels first)

-- the line at a place, with the figures of the messages that have the label, by a list of lines
abbrev pub label_figures_row : List (List ℕ) → Work → (ℕ → ℕ) → List ℕ → List PartFigures → ℕ
    → List (List ℕ)
label_figures_row labels work start chain parts place =
    label_row labels work chain (slice_index (first_messages labels) place)
    ++ part_fields (length_of work start)
    (tally_of work chain (has_label labels (slice_index (first_messages labels) place)))
    (slice_index_or parts place no_part)

-- the lines of the labels, in the order of their first messages
abbrev pub label_lines : Columns → Label → List Message → Work → (ℕ → ℕ) → List ℕ → List PartFigures
    → List (List (List ℕ))
label_lines Costs label messages work start chain parts =
    label_header label
    ∷ map (label_row (labels_of label messages) work chain) (first_messages (labels_of label messages))
label_lines Figures label messages work start chain parts =
    (label_header label ++ part_names)
    ∷ map (label_figures_row (labels_of label messages) work start chain parts)
    (range_with_len 0 (length (first_messages (labels_of label messages))))

-- the line of the name at a place of a list, by a tally for each
abbrev pub tallied_name_row : List (List ℕ) → List Tally → ℕ → List (List ℕ)
tallied_name_row names tallies place =
    named_row (slice_index_or names place []) (slice_index_or tallies place no_tally)

-- and by the figures of each, in a plan of this length
abbrev pub tallied_name_figures_row : List (List ℕ) → ℕ → List Tally → List PartFigures → ℕ
    → List (List ℕ)
tallied_name_figures_row names plan_length tallies parts place =
    tallied_name_row names tallies place
    ++ part_fields plan_length (slice_index_or tallies place no_tally) (slice_index_or parts place no_part)

-- the keys are the distinct ones of the names so far, and a place is that of its name
pub record AreNumbered (names keys : List (List ℕ)) (places : List ℕ) : Type 0 where
  pub distinct : keys ≡ distinct_names (take (length places) names)
  pub few : length keys ≤ length places
  pub within : (i : ℕ) → i < length places → slice_index_or places i 0 < length keys
  pub each : (i : ℕ) → i < length places
      → slice_index_or keys (slice_index_or places i 0) [] ≡ slice_index_or names i []
