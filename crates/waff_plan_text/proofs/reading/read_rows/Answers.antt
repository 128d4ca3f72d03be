-- One record after the other.
use Rattle.std.proofs.Common.{sym, ap, ◌∙◌, Err, arith, length}
use Rattle.std.proofs.Math.ListN.{length-set}
use Rattle.std.proofs.lemmas.Result.{err_from_is_err_and}
use Rattle.waff_plan_text.specs.Refusals.{at_record}
use Rattle.waff_plan_text.proofs.PlanLaws.{end-stops, end-summary, after-end, after-refused, after-row, after-stops, after-summary}
use Rattle.waff_plan_text.proofs.reading.read_rows.Goals as goal

pub returns-in_err-next_record-clause-value : goal.returns-in_err-next_record-clause-value
returns-in_err-next_record-clause-value c =
    let i = c.loop-slots.invariant in
    let p = err_from_is_err_and c.from_residual-in_err-next_record.result c.from_residual-in_err-next_record.ensures.1 in
    rw (p.1, p.2, ← i.plan) (after-stops c.args.version c.args.messages c.loop-slots.at c.loop-slots.slots _ _ _ _ c.in_err-next_record.ensures.next)

pub returns-then-begins_summary-clause-value : goal.returns-then-begins_summary-clause-value
returns-then-begins_summary-clause-value c =
    let i = c.loop-slots.invariant in
    let found = rw c.if-branch.true at c.in_ok-next_record.ensures.next in
    let after = after-summary c.args.version c.args.messages c.loop-slots.at c.loop-slots.slots _ _ _ found (sym c.if-begins_summary.ensures) in
    rw (← i.plan, after, ← i.count) c.read_end.ensures.value

pub returns-in-Err-Fault-clause-value : goal.returns-in-Err-Fault-clause-value
returns-in-Err-Fault-clause-value c =
    let i = c.loop-slots.invariant in
    let found = rw c.if-branch.true at c.in_ok-next_record.ensures.next in
    let refused = rw c.in-Err-Fault.field-0-is at c.in-Err-Fault.ensures.value in
    sym i.plan ∙ after-refused c.args.version c.args.messages c.loop-slots.at c.loop-slots.slots _ _ _ c.in-Err-Fault.refusal found (sym c.if-begins_summary.ensures) refused
    ∙ ap Err (sym (c.at_record.ensures ∙ ap (at_record c.loop-slots.at) c.in-Err-Fault.refusal-is))

pub loop-slots-preserved : goal.loop-slots-preserved
loop-slots-preserved c =
    let i = c.loop-slots.invariant in
    let found = rw c.if-branch.true at c.in_ok-next_record.ensures.next in
    let len = ap length found.0 in
    let put = c.put.ensures in
    record {
      reads = c.in_ok-next_record.ensures.reads;
      count = rw put (simp length-set i.count);
      room = omega (arith, len, i.room);
      plan = rw put (sym (after-row c.args.version c.args.messages c.loop-slots.at c.loop-slots.slots _ _ _ c.in-Ok.given found (sym c.if-begins_summary.ensures) c.in-Ok.ensures.value) ∙ i.plan);
    }

pub returns-in_err-_rows-clause-value : goal.returns-in_err-_rows-clause-value
returns-in_err-_rows-clause-value c =
    let i = c.loop-slots.invariant in
    let none = rw c.if-branch.false at c.in_ok-next_record.ensures.next in
    let p = err_from_is_err_and c.from_residual-in_err-_rows.result c.from_residual-in_err-_rows.ensures.1 in
    rw (p.1, p.2, ← i.plan, after-end c.args.version c.args.messages c.loop-slots.at c.loop-slots.slots _ none) (end-stops c.loop-slots.at c.loop-slots.slots _ c.in_err-_rows.ensures.rows)

pub returns-clause-value : goal.returns-clause-value
returns-clause-value c =
    let i = c.loop-slots.invariant in
    let none = rw c.if-branch.false at c.in_ok-next_record.ensures.next in
    sym i.plan ∙ after-end c.args.version c.args.messages c.loop-slots.at c.loop-slots.slots _ none ∙ end-summary c.loop-slots.at c.loop-slots.slots _ c.in_ok-_rows.ensures.rows
