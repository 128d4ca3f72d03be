use Rattle.std.proofs.Common.{◌<◌, ◌≤◌, List, All, length, sym, ◌∙◌, ap, subst}
use Rattle.std.specs.List.{AllPairs}
use Rattle.std.proofs.lemmas.Result.{IfOk-weaker}
use Rattle.waff_model.specs.declared.limits.TheConstants.{MAX_MESSAGES}
use Rattle.waff_figures.specs.ByName.{message_names}
use Rattle.waff_figures.specs.WaitText.{are_alike}
use Rattle.waff_limits.specs.Lifted.{AreLifts, IsTold}
use Rattle.waff_limits.specs.WhyRows.{AreRows, same_group, same_kind}
use Rattle.waff_limits.specs.declared.lifted.Lift.{Lift}
use Rattle.waff_limits.specs.declared.why_rows.Row.{Row}
use Rattle.waff_limits.proofs.LiftRows.{groups_agree, rows_same, rows_told}
use Rattle.waff_limits.proofs.why_text.lifting_rows.Goals as goal

pub rows-requires-clause-order : goal.rows-requires-clause-order
rows-requires-clause-order c =
    subst (AllPairs (λ (one : Lift) (other : Lift). one.message < other.message)) (sym c.as_slice.ensures.value) c.in_ok-lifts.ensures.lifts.order

pub rows-requires-clause-told : goal.rows-requires-clause-told
rows-requires-clause-told c =
    let laid = c.args.laid.now in
    subst (λ n. All (IsTold laid.layout.now.spaces n) c.as_slice.result.now)
    (sym (ap length c.as_slice-2.ensures.value ∙ c.in_ok-groups.ensures.count ∙ laid.case.lengths))
    (subst (All (IsTold laid.layout.now.spaces (length laid.case.trace.now.messages))) (sym c.as_slice.ensures.value) c.in_ok-lifts.ensures.told)

pub rows-requires-clause-few : goal.rows-requires-clause-few
rows-requires-clause-few c = subst (λ (ls : List Lift). length ls ≤ MAX_MESSAGES) (sym c.as_slice.ensures.value) c.in_ok-lifts.ensures.few

pub returns : goal.returns
returns c =
    let laid = c.args.laid.now in
    let layout = laid.layout.now in
    let messages = laid.case.trace.now.messages in
    let assigned = laid.case.assigned.now in
    let lifts = c.in_ok-lifts.lifts.items in
    let groups = c.in_ok-groups.groups.items in
    let n = length assigned in
    let alike = are_alike c.args.grouping assigned (message_names messages) in
    let one = same_group groups layout.spaces in
    let other = same_kind alike layout.spaces in
    let agree = groups_agree alike groups layout.spaces n c.in_ok-groups.ensures.tell in
    let known : All (IsTold layout.spaces n) lifts
    = subst (λ k. All (IsTold layout.spaces k) lifts) (sym laid.case.lengths) c.in_ok-lifts.ensures.told in
    let made : (rows : List Row) → AreRows (same_group c.as_slice-2.result.now layout.spaces) c.as_slice.result.now rows → AreRows one lifts rows
    = λ rows are.
    subst (λ gs. AreRows (same_group gs layout.spaces) lifts rows) c.as_slice-2.ensures.value
    (subst (λ ls. AreRows (same_group c.as_slice-2.result.now layout.spaces) ls rows) c.as_slice.ensures.value are) in
    record {
      rows = IfOk-weaker c.rows.result (λ rows. AreRows (same_group c.as_slice-2.result.now layout.spaces) c.as_slice.result.now rows.items)
          (λ rows. (ls : List Lift) × AreLifts layout messages assigned ls × AreRows other ls rows.items)
          (λ rows are. (
            lifts,
            c.in_ok-lifts.ensures.lifts,
            rows_same one other (IsTold layout.spaces n) agree lifts known rows.items (made rows.items are),
          ))
          c.rows.ensures;
      told = IfOk-weaker c.rows.result (λ rows. AreRows (same_group c.as_slice-2.result.now layout.spaces) c.as_slice.result.now rows.items)
          (λ rows. All (λ (row : Row). IsTold layout.spaces n row.first) rows.items)
          (λ rows are. rows_told one other (IsTold layout.spaces n) agree lifts known rows.items (made rows.items are))
          c.rows.ensures;
    }
