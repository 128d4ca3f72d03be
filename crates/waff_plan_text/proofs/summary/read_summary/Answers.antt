-- One line after the other.
use Rattle.std.proofs.Common.{◌+◌, Err, sym, ap, ◌∙◌, subst, arith}
use Rattle.std.proofs.lemmas.Result.{err_from_is_err_and}
use Rattle.csv.specs.Records.{fields_of}
use Rattle.waff_parse.specs.Rows.{records_left}
use Rattle.waff_parse.specs.Stopping.{Stops}
use Rattle.waff_plan_text.specs.Refusals.{at_record}
use Rattle.waff_plan_text.specs.declared.table.Line.TheVariants.{Workers}
use Rattle.waff_plan_text.proofs.TableLaws.{end_done, end_refused, next_is_text, turn_missing, turn_refused, turn_stops, turn_taken}
use Rattle.waff_plan_text.proofs.summary.read_summary.Goals as goal

pub returns-then-not-found-clause-value : goal.returns-then-not-found-clause-value
returns-then-not-found-clause-value c =
    let value = rw c.if-not-found.true at c.loop-line.invariant.value in
    sym value ∙ turn_missing c.args.version c.args.messages c.all_lines-lines.result.now c.loop-line.line-index Workers c.loop-line.at c.loop-line.summary
    c.loop-line-test.true (sym c.if-not-is_in.ensures)

pub returns-in-Err-Fault-clause-value : goal.returns-in-Err-Fault-clause-value
returns-in-Err-Fault-clause-value c =
    let value = rw c.if-not-found.false at c.loop-line.invariant.value in
    let refused = rw c.in-Err-Fault.field-0-is at c.in-Err-Fault.ensures.value in
    sym value ∙ turn_refused c.args.version c.args.messages c.all_lines-lines.result.now c.loop-line.line-index Workers c.loop-line.at c.loop-line.summary
    c.loop-line-test.true (sym c.if-not-is_in.ensures) (fields_of c.loop-line.row) (records_left c.loop-line.rdr) (c.loop-line.invariant.text c.if-not-found.false)
    c.in-Err-Fault.refusal refused
    ∙ ap Err (sym (c.at_record.ensures ∙ ap (at_record c.loop-line.at) c.in-Err-Fault.refusal-is))

pub returns-in_err-found-clause-value : goal.returns-in_err-found-clause-value
returns-in_err-found-clause-value c =
    let value = rw c.if-not-found.false at c.loop-line.invariant.value in
    let p = err_from_is_err_and c.from_residual.result c.from_residual.ensures.1 in
    rw (p.1, p.2) (subst (λ r. Stops c.in_err-found.field-0.0 r) value
    (turn_stops c.args.version c.args.messages c.all_lines-lines.result.now c.loop-line.line-index Workers c.loop-line.at c.loop-line.summary
    c.loop-line-test.true (sym c.if-not-is_in.ensures) (fields_of c.loop-line.row) (records_left c.loop-line.rdr) (c.loop-line.invariant.text c.if-not-found.false)
    c.read_line.new.self c.in-Ok.ensures.value _ _ _ c.in_err-found.ensures.next))

pub loop-line-preserved : goal.loop-line-preserved
loop-line-preserved c =
    let i = c.loop-line.invariant in
    let value = rw c.if-not-found.false at i.value in
    record {
      reads = c.in_ok-found.ensures.reads;
      text = next_is_text (c.loop-line.at + 1) c.in_ok-found.found _ _ _ c.in_ok-found.ensures.next;
      room = omega (arith, i.room);
      workers = c.in-Ok.ensures.workers;
      chain = c.in-Ok.ensures.chain;
      value = turn_taken c.args.version c.args.messages c.all_lines-lines.result.now c.loop-line.line-index Workers c.loop-line.at c.loop-line.summary
          c.loop-line-test.true (sym c.if-not-is_in.ensures) (fields_of c.loop-line.row) (records_left c.loop-line.rdr) (i.text c.if-not-found.false)
          c.read_line.new.self c.in-Ok.ensures.value c.in_ok-found.found _ _ c.in_ok-found.ensures.next ∙ value;
    }

pub returns-then-found-clause-value : goal.returns-then-found-clause-value
returns-then-found-clause-value c =
    let value = rw c.if-found.true at c.loop-line.invariant.value in
    sym value ∙ end_refused c.args.version c.args.messages c.all_lines-lines.result.now c.loop-line.line-index c.loop-line.at c.loop-line.summary
    c.loop-line-test.false (fields_of c.loop-line.row) (records_left c.loop-line.rdr) (c.loop-line.invariant.text c.if-found.true)

pub returns-clause-value : goal.returns-clause-value
returns-clause-value c =
    let value = rw c.if-found.false at c.loop-line.invariant.value in
    sym value ∙ end_done c.args.version c.args.messages c.all_lines-lines.result.now c.loop-line.line-index c.loop-line.at c.loop-line.summary
    c.loop-line-test.false
