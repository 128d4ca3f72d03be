use Rattle.std.proofs.Common.{ℕ, ◌-◌, ◌++◌, List, All, IfSome, None, Option, get_or, length, map, string_bytes, sym, ◌∙◌, ap, subst}
use Rattle.waff_plan.specs.Planned.{planned_pairs, planned_starts, planned_work}
use Rattle.waff_plan.specs.Work.{IsAmongFirst}
use Rattle.waff_plan_text.specs.Lines.{line_text, text_of}
use Rattle.waff_model.specs.Layout.{has_locks}
use Rattle.waff_figures.specs.WaitLocks.{AreBy}
use Rattle.waff_figures.specs.WorstText.{worst_header, worst_row}
use Rattle.waff_figures.specs.declared.worst.Timed.{Timed}
use Rattle.waff_figures.proofs.LineLemmas.{two_parts}
use Rattle.waff_figures.proofs.RowLemmas.{map_map}
use Rattle.waff_figures.proofs.WaitLemmas.{all_links_known, first_known}
use Rattle.waff_figures.proofs.WorstLemmas.{number, numbers_known}
use Rattle.waff_figures.proofs.worst_text.worst_messages_text.Goals as goal

pub push_rows-requires-clause-among : goal.push_rows-requires-clause-among
push_rows-requires-clause-among c =
    let planned = c.args.planned.now in
    let items = c.in_ok-worst.worst.items in
    subst (All (λ (timed : Timed). IsAmongFirst (length planned.case.assigned.now) timed.message)) (sym c.as_slice-4.ensures.value)
    (numbers_known (length planned.case.assigned.now) items
    (subst (λ n. All (IsAmongFirst n) (map number items)) planned.lengths c.in_ok-worst.ensures.among))

-- the messages that were waited for are of the trace
pub locks_waited_for-requires-clause-known : goal.locks_waited_for-requires-clause-known
locks_waited_for-requires-clause-known c =
    let planned = c.args.planned.now in
    let plan = planned.plan.now in
    let count = length planned.case.assigned.now in
    subst (All (λ link. IfSome link (IsAmongFirst count))) (sym c.as_slice.ensures.value)
    (all_links_known (planned_pairs planned) count (first_known plan.version planned.case.tree.now planned.case.assigned.now (planned_starts planned))
    (planned_work planned) (planned_starts planned) c.in_ok-waited.waited.items (length plan.timings) planned.lengths c.in_ok-waited.ensures.count
    c.in_ok-waited.ensures.waited)

pub push_rows-requires-clause-known : goal.push_rows-requires-clause-known
push_rows-requires-clause-known c =
    let planned = c.args.planned.now in
    let plan = planned.plan.now in
    let count = length planned.case.assigned.now in
    subst (All (λ link. IfSome link (IsAmongFirst count))) (sym c.as_slice-2.ensures.value)
    (all_links_known (planned_pairs planned) count (first_known plan.version planned.case.tree.now planned.case.assigned.now (planned_starts planned))
    (planned_work planned) (planned_starts planned) c.in_ok-waited.waited.items (length plan.timings) planned.lengths c.in_ok-waited.ensures.count
    c.in_ok-waited.ensures.waited)

pub returns : goal.returns
returns c =
    let planned = c.args.planned.now in
    let case = planned.case in
    let links = c.in_ok-waited.waited.items in
    let items = c.in_ok-worst.worst.items in
    let by = c.in_ok-by.by.items in
    let spaces = c.args.locks.now.layout.now.spaces in
    let header = worst_header (has_locks spaces) in
    let row : List (Option ℕ) → List (Option ℕ) → ℕ → List (List ℕ)
    = λ waited locks m. worst_row spaces c.args.locks.now.cells.now case.tree.now case.assigned.now case.trace.now.messages (planned_work planned) (planned_starts planned) m
    (get_or waited (m - 1) None) (get_or locks (m - 1) None) in
    let rows : List (Option ℕ) → List (Option ℕ) → List Timed → List (List (List ℕ)) = λ waited locks worst. map (λ (timed : Timed). row waited locks timed.message) worst in
    let slices = ap (λ waited. rows waited c.as_slice-3.result.now c.as_slice-4.result.now) c.as_slice-2.ensures.value
    ∙ ap (λ locks. rows links locks c.as_slice-4.result.now) c.as_slice-3.ensures.value ∙ ap (rows links by) c.as_slice-4.ensures.value ∙ map_map (row links by) number items in
    let are_by = subst (λ waited. AreBy case.tree.now case.assigned.now waited by) c.as_slice.ensures.value c.in_ok-by.ensures in (
      links,
      by,
      map number items,
      c.in_ok-waited.ensures.waited,
      are_by,
      c.in_ok-worst.ensures,
      two_parts header (map (row links by) (map number items)) (string_bytes c.push_header.new.text) (string_bytes c.push_rows.new.text)
          (c.in_ok-push_header.ensures ∙ ap (λ bytes. bytes ++ line_text (worst_header c.args.locks.now.are_some)) c.new-text.ensures.bytes
          ∙ ap (λ some. line_text (worst_header some)) c.args.locks.now.some)
          (c.in_ok-push_rows.ensures ∙ ap (λ lines. string_bytes c.push_header.new.text ++ text_of lines) slices),
    )
