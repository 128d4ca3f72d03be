use Rattle.std.proofs.Common.{◌∙◌, ap, arith, drop, subst, sym}
use Rattle.csv.specs.Records.{fields_of}
use Rattle.waff_inputs.specs.Known.{newest}
use Rattle.waff_parse.specs.Rows.{records_left, records_of}
use Rattle.waff_record.specs.Writing.{BeginsWithText}
use Rattle.waff_record.proofs.Retold.{first_is_text, next_is_text, next_leaves}
use Rattle.waff_record.proofs.cut.cut_text.Goals as goal

pub next_row-requires-clause-there : goal.next_row-requires-clause-there
next_row-requires-clause-there c =
    let run = c.args.run.now in
    let trace = run.whole.now.trace in
    subst BeginsWithText (sym c.text_rows-rows.ensures.left)
    (first_is_text trace (records_of run.bytes.now) (c.rows_are_text.ensures newest run.whole.now.layout.spaces run.bytes.now trace run.spelled))

pub loop-n-init : goal.loop-n-init
loop-n-init c = record {
  reads = c.in_ok-next_row.ensures.reads;
  left = ap (drop 1) (sym c.in_ok-next_row.ensures.next ∙ c.text_rows-rows.ensures.left);
}

pub next_row-requires-in-loop-n-clause-there : goal.next_row-requires-in-loop-n-clause-there
next_row-requires-in-loop-n-clause-there c =
    let run = c.args.run.now in
    let trace = run.whole.now.trace in
    next_is_text trace (records_of run.bytes.now) (c.rows_are_text.ensures newest run.whole.now.layout.spaces run.bytes.now trace run.spelled) c.loop-n.n
    (records_left c.loop-n.rows) (omega (arith, c.loop-n.auto.n)) (omega (arith, c.loop-n-test.true, c.loop-n.auto.n-end, c.len-n-end.ensures.count))
    c.loop-n.invariant.left

pub loop-n-preserved : goal.loop-n-preserved
loop-n-preserved c =
    let run = c.args.run.now in
    let trace = run.whole.now.trace in
    let are = c.rows_are_text.ensures newest run.whole.now.layout.spaces run.bytes.now trace run.spelled in
    record {
      reads = c.in_ok-next_row-2.ensures.reads;
      left = next_leaves trace (records_of run.bytes.now) are c.loop-n.n (records_left c.loop-n.rows) (records_left c.next_row-in-loop-n.new.rows)
          (fields_of c.next_row-in-loop-n.new.row) (omega (arith, c.loop-n.auto.n))
          (omega (arith, c.loop-n-test.true, c.loop-n.auto.n-end, c.len-n-end.ensures.count)) c.loop-n.invariant.left c.in_ok-next_row-2.ensures.next;
    }
