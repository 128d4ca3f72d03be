use Rattle.std.proofs.Common.{[], ◌∷◌, decimal, string_bytes}
use Rattle.std.proofs.lemmas.Result.{on_ok_weaker}
use Rattle.waff_assign.specs.Order.{affinity_name}
use Rattle.waff_plan.specs.Planned.{planned_starts, planned_work}
use Rattle.waff_plan.specs.Timetable.{clients_of}
use Rattle.waff_plan.specs.Work.{finish_of, issue_of}
use Rattle.waff_figures.specs.ByName.{label_at, message_names}
use Rattle.waff_figures.specs.Figures.{latency_of}
use Rattle.waff_figures.specs.Waits.{ready_of}
use Rattle.waff_model.specs.Layout.{has_locks}
use Rattle.waff_figures.specs.WaitText.{field_where, for_field}
use Rattle.waff_figures.specs.WorstText.{by_cell_field}
use Rattle.waff_figures.proofs.LineLemmas.{line_of_pieces}
use Rattle.waff_figures.proofs.worst_text.push_row.Goals as goal

pub returns : goal.returns
returns c =
    let case = c.args.planned.now.case in
    let work = planned_work c.args.planned.now in
    let start = planned_starts c.args.planned.now in
    let name = label_at (message_names case.trace.now.messages) in
    let affinity = affinity_name case.tree.now case.assigned.now in
    let m = c.args.message in
    let on = c.args.on in
    let spaces = c.args.locks.now.layout.now.spaces in
    on_ok_weaker c.push_waited_for.result
    (line_of_pieces (decimal m ∷ name m ∷ affinity m ∷ label_at (clients_of case.trace.now.messages) m ∷ [])
    (decimal (issue_of work start m)) (decimal (ready_of work start m on) ∷ decimal (start m) ∷ decimal (finish_of work start m) ∷ decimal (latency_of work start m) ∷ [])
    (for_field decimal on) (for_field name on ∷ for_field affinity on ∷ field_where (has_locks spaces) (by_cell_field spaces c.args.locks.now.cells.now c.args.by))
    (string_bytes c.args.text.now) (string_bytes c.push_labels.new.text) (string_bytes c.push_times.new.text) (string_bytes c.push_waited_for.new.text)
    c.in_ok-push_labels.ensures c.in_ok-push_times.ensures)
    c.push_waited_for.ensures
