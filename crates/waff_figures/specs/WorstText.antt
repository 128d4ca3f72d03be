-- The lines that tell of the worst messages.
use Rattle.std.specs.Prelude.{ℕ, ◌-◌, List, [], ◌∷◌, ◌++◌, Bool, Option, None, codes, decimal, map}
use Rattle.std.specs.Prelude.{option_map, slice_index_or, unwrap_or}
use Rattle.std.specs.List.{flat_map}
use Rattle.waff_model.specs.Layout.{Space, has_locks}
use Rattle.waff_model.specs.Tree.{Node}
use Rattle.waff_model.specs.declared.cell.Cell.{Cell}
use Rattle.waff_model.specs.declared.message.Message.{Message}
use Rattle.waff_assign.specs.Held.{Held}
use Rattle.waff_assign.specs.Order.{affinity_name}
use Rattle.waff_read.specs.Spellings.{cell_spelled}
use Rattle.waff_plan.specs.Timetable.{clients_of}
use Rattle.waff_plan.specs.Work.{Work, finish_of, issue_of}
use Rattle.waff_figures.specs.ByName.{label_at, message_names}
use Rattle.waff_figures.specs.Figures.{latency_of}
use Rattle.waff_figures.specs.WaitLocks.{cell_by}
use Rattle.waff_figures.specs.Waits.{ready_of}
use Rattle.waff_figures.specs.WaitText.{field_where, for_field}

-- the fields, each with a comma behind it
abbrev pub fields_text : List (List ℕ) → List ℕ
fields_text fields = flat_map (λ field. field ++ 44 ∷ []) fields

-- a cell as a trace spells it, `-` where there is no lock
abbrev pub by_cell_field : List Space → List Cell → Option ℕ → List ℕ
by_cell_field spaces cells by = unwrap_or (option_map (cell_spelled spaces) (cell_by cells by)) (codes "-")

-- the first line
abbrev pub worst_header : Bool → List (List ℕ)
worst_header locks =
    codes "message" ∷ codes "name" ∷ codes "affinity" ∷ codes "client" ∷ codes "issue"
    ∷ codes "ready" ∷ codes "start" ∷ codes "finish" ∷ codes "latency"
    ∷ codes "for" ∷ codes "forname" ∷ codes "foraffinity" ∷ field_where locks (codes "by")

-- the line of message m: when it is issued, is ready, starts and has finished, how long it takes, and
-- the message that it waited for, if it waited for one, and where there are locks the cell of that by which it did
abbrev pub worst_row : List Space → List Cell → List Node → List Held → List Message → Work → (ℕ → ℕ)
    → ℕ → Option ℕ → Option ℕ → List (List ℕ)
worst_row spaces cells tree assigned messages work start m waited_for by =
    decimal m
    ∷ label_at (message_names messages) m
    ∷ affinity_name tree assigned m
    ∷ label_at (clients_of messages) m
    ∷ decimal (issue_of work start m)
    ∷ decimal (ready_of work start m waited_for)
    ∷ decimal (start m)
    ∷ decimal (finish_of work start m)
    ∷ decimal (latency_of work start m)
    ∷ for_field decimal waited_for
    ∷ for_field (label_at (message_names messages)) waited_for
    ∷ for_field (affinity_name tree assigned) waited_for
    ∷ field_where (has_locks spaces) (by_cell_field spaces cells by)

-- the lines of these messages, where lists have for each message the one that it waited for, and the lock by which it
-- did
abbrev pub worst_lines : List Space → List Cell → List Node → List Held → List Message → Work → (ℕ → ℕ)
    → List (Option ℕ) → List (Option ℕ) → List ℕ → List (List (List ℕ))
worst_lines spaces cells tree assigned messages work start waited locks worst =
    worst_header (has_locks spaces)
    ∷ map (λ m. worst_row spaces cells tree assigned messages work start m
    (slice_index_or waited (m - 1) None) (slice_index_or locks (m - 1) None))
    worst
