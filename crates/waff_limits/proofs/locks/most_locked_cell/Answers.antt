-- The lock of the lowest number with the greatest need, and its cell.
use Rattle.std.proofs.Common.{◌≡◌, ◌<◌, List, Some, length, get_or, slice_get, sym, ◌∙◌, ap, subst, arith}
use Rattle.std.proofs.lemmas.List.{get_or_default}
use Rattle.std.proofs.lemmas.Option.{slice_get-get_or}
use Rattle.waff_model.specs.declared.cell.Cell.{Cell}
use Rattle.waff_plan.specs.Planned.{planned_work}
use Rattle.waff_limits.proofs.LockLaws.{at_within, locks_same, most_locked, none_locked, work_costs, work_count}
use Rattle.waff_limits.proofs.locks.most_locked_cell.Goals as goal

pub returns-then-longest-eq0 : goal.returns-then-longest-eq0
returns-then-longest-eq0 c =
    let planned = c.args.planned.now in
    let messages = planned.case.trace.now.messages in
    let found = c.in_ok-longest.ensures in
    none_locked c.args.layout.now messages planned.case.assigned.now c.requires.assignment (planned_work planned)
    (work_count messages planned.plan.now.timings planned.timings) (work_costs messages planned.plan.now.timings planned.timings)
    found.0 found.1 c.in_ok-longest.longest found.2 c.if-longest-eq0.true

pub index-cell-requires : goal.index-cell-requires
index-cell-requires c =
    let planned = c.args.planned.now in
    let messages = planned.case.trace.now.messages in
    let found = c.in_ok-longest.ensures in
    let low = at_within c.args.layout.now messages planned.case.assigned.now c.requires.assignment (planned_work planned)
    (work_count messages planned.plan.now.timings planned.timings) (work_costs messages planned.plan.now.timings planned.timings)
    found.0 found.1 c.in_ok-longest.longest found.2 (omega (arith, c.if-longest-eq0.false)) in
    let same = locks_same c.args.layout.now messages c.in_ok-cells.cells.items c.requires.assignment.locks c.in_ok-cells.ensures c.requires.assignment.numbered in
    omega (arith, low, ap length same, c.in_ok-cells.cells.ok.0)

pub returns : goal.returns
returns c =
    let planned = c.args.planned.now in
    let messages = planned.case.trace.now.messages in
    let found = c.in_ok-longest.ensures in
    let at = c.in_ok-longest.longest.at in
    let locks = c.requires.assignment.locks in
    let some : 0 < c.in_ok-longest.longest.ticks = omega (arith, c.if-longest-eq0.false) in
    let low = at_within c.args.layout.now messages planned.case.assigned.now c.requires.assignment (planned_work planned)
    (work_count messages planned.plan.now.timings planned.timings) (work_costs messages planned.plan.now.timings planned.timings)
    found.0 found.1 c.in_ok-longest.longest found.2 some in
    let cell : Cell = c.index-cell.result.now in
    let same : c.in_ok-cells.cells.items ≡ locks = locks_same c.args.layout.now messages c.in_ok-cells.cells.items locks c.in_ok-cells.ensures c.requires.assignment.numbered in
    let here : slice_get locks at ≡ Some cell = slice_get-get_or locks at cell low ∙ ap Some (ap (λ xs. get_or xs at cell) (sym same) ∙ sym c.index-cell.ensures) in
    most_locked c.args.layout.now messages planned.case.assigned.now c.requires.assignment (planned_work planned)
    (work_count messages planned.plan.now.timings planned.timings) (work_costs messages planned.plan.now.timings planned.timings)
    found.0 found.1 c.in_ok-longest.longest found.2 some cell here
