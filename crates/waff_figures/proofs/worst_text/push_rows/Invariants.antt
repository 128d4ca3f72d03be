use Rattle.std.proofs.Common.{◌≡◌, ◌-◌, ◌++◌, get_or, map, string_bytes, take, None}
use Rattle.waff_plan.specs.Planned.{planned_starts, planned_work}
use Rattle.waff_plan_text.specs.Lines.{text_of}
use Rattle.waff_figures.specs.WorstText.{worst_row}
use Rattle.waff_figures.proofs.worst_text.push_rows.Given as goal

abbrev pub invariant-loop-timed : goal.invariant-loop-timed
invariant-loop-timed l =
    string_bytes l.text ≡ string_bytes l.initial.text
    ++ text_of (map (λ timed.
    worst_row l.locks.layout.now.spaces l.locks.cells.now l.planned.case.tree.now l.planned.case.assigned.now l.planned.case.trace.now.messages (planned_work l.planned) (planned_starts l.planned)
    timed.message (get_or l.waited (timed.message - 1) None) (get_or l.by (timed.message - 1) None)) (take l.timed-index l.worst))
