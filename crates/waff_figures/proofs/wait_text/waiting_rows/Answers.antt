use Rattle.std.proofs.Common.{List, All, length, sym, ◌∙◌, ap, subst}
use Rattle.std.specs.List.{AllPairs}
use Rattle.std.proofs.lemmas.Result.{IfOk-weaker}
use Rattle.waff_plan.specs.Planned.{planned_pairs, planned_starts, planned_work}
use Rattle.waff_figures.specs.ByName.{message_names}
use Rattle.waff_figures.specs.Waits.{AreWaits, ComesFirst, IsWaitAmong}
use Rattle.waff_figures.specs.WaitRows.{AreRows, same_group, same_in, same_kind}
use Rattle.waff_figures.specs.WaitText.{are_alike}
use Rattle.waff_figures.specs.declared.wait_rows.Row.{Row}
use Rattle.waff_figures.specs.declared.waits.Wait.{Wait}
use Rattle.waff_figures.proofs.WaitGroups.{rows_among, rows_same}
use Rattle.waff_figures.proofs.wait_text.waiting_rows.Goals as goal

pub rows-requires-clause-order : goal.rows-requires-clause-order
rows-requires-clause-order c = subst (AllPairs ComesFirst) (sym c.as_slice.ensures.value) c.in_ok-waits.ensures.order

pub rows-requires-clause-among : goal.rows-requires-clause-among
rows-requires-clause-among c =
    subst (λ n. All (IsWaitAmong n) c.as_slice.result.now) (sym (ap length c.as_slice-2.ensures.value ∙ c.in_ok-groups.ensures.count))
    (subst (All (IsWaitAmong (length c.args.planned.now.case.assigned.now))) (sym c.as_slice.ensures.value) c.in_ok-waits.ensures.among)

pub returns : goal.returns
returns c =
    let assigned = c.args.planned.now.case.assigned.now in
    let waits = c.in_ok-waits.waits.items in
    let groups = c.in_ok-groups.groups.items in
    let alike = are_alike c.args.grouping assigned (message_names c.args.planned.now.case.trace.now.messages) in
    let among = c.in_ok-waits.ensures.among in
    let told : (rows : List Row) → AreRows (same_in c.as_slice-2.result.now c.args.cells.now) c.as_slice.result.now rows → AreRows (same_in groups c.args.cells.now) waits rows
    = λ rows are.
    subst (λ gs. AreRows (same_in gs c.args.cells.now) waits rows) c.as_slice-2.ensures.value
    (subst (λ ws. AreRows (same_in c.as_slice-2.result.now c.args.cells.now) ws rows) c.as_slice.ensures.value are) in
    record {
      rows = IfOk-weaker c.rows.result (λ rows. AreRows (same_in c.as_slice-2.result.now c.args.cells.now) c.as_slice.result.now rows.items)
          (λ rows. (ws : List Wait)
          × AreWaits c.args.planned.now.case.tree.now assigned (planned_pairs c.args.planned.now) (planned_work c.args.planned.now)
          (planned_starts c.args.planned.now) ws × AreRows (same_kind alike c.args.cells.now) ws rows.items)
          (λ rows are. (
            waits,
            c.in_ok-waits.ensures.waits,
            rows_same (same_group groups) alike (length assigned) c.in_ok-groups.ensures.tell c.args.cells.now waits among rows.items (told rows.items are),
          ))
          c.rows.ensures;
      among = IfOk-weaker c.rows.result (λ rows. AreRows (same_in c.as_slice-2.result.now c.args.cells.now) c.as_slice.result.now rows.items)
          (λ rows. All (λ (row : Row). IsWaitAmong (length assigned) row.first) rows.items)
          (λ rows are. rows_among (same_group groups) alike (length assigned) c.in_ok-groups.ensures.tell c.args.cells.now waits among rows.items (told rows.items are))
          c.rows.ensures;
    }
