use Rattle.std.proofs.Common.{◌≡◌, ◌∷◌, ◌≤◌, ◌-◌, ◌∙◌, length, drop, ap, sym, subst, arith}
use Rattle.std.proofs.lemmas.Result.{IfOk-weaker}
use Rattle.std.proofs.lemmas.Option.{get_or_from_slice_get}
use Rattle.csv.specs.Records.{fields_of}
use Rattle.std.specs.Fmt.{decimal}
use Rattle.waff_inputs.specs.Known.{newest}
use Rattle.waff_read.specs.Spellings.{after_spelled}
use Rattle.waff_model.specs.declared.message.Message.{Message}
use Rattle.waff_parse.specs.Rows.{records_left, records_of}
use Rattle.waff_plan.specs.Timetable.{message_of, no_message}
use Rattle.waff_plan.specs.Timing.{timing_of}
use Rattle.waff_read.specs.Anew.{rows_anew, text_anew}
use Rattle.waff_read.specs.Messages.{header_row}
use Rattle.waff_record.specs.Runs.{message_told, messages_told}
use Rattle.waff_record.specs.Writing.{BeginsWithText, Completes, row_with}
use Rattle.waff_record.proofs.Retold.{first_is_text, further, next_has_columns, next_is_text, next_leaves, none_left}
use Rattle.waff_record.proofs.anew.measured_text.Goals as goal

pub next_row-requires-clause-there : goal.next_row-requires-clause-there
next_row-requires-clause-there c =
    let run = c.args.told.now.run in
    let trace = run.case.trace.now in
    let records = records_of run.bytes.now in
    subst BeginsWithText (sym c.text_rows-rows.ensures.left)
    (first_is_text trace records (c.rows_are_text.ensures newest run.layout.now.spaces run.bytes.now trace run.spelled))

pub loop-n-init : goal.loop-n-init
loop-n-init c =
    let run = c.args.told.now.run in
    let version = run.case.trace.now.version in
    let told = messages_told run.case.trace.now.messages c.args.told.now.plan.now.timings in
    let left : records_left c.next_row.new.rows ≡ drop 1 (records_of run.bytes.now)
    = ap (drop 1) (sym c.in_ok-next_row.ensures.next ∙ c.text_rows-rows.ensures.left) in
    let rows = rows_anew version (drop 1 (records_of run.bytes.now)) told in
    let whole = text_anew version (drop 1 (records_of run.bytes.now)) told in
    let before : Completes c.in_ok-text.text (header_row version ∷ rows) whole = c.in_ok-text.ensures (header_row version ∷ rows) in
    record {
      reads = c.in_ok-next_row.ensures.reads;
      left = left;
      text = subst (λ there. Completes c.write_row.new.text (rows_anew version there told) whole) (sym left)
          (c.in_ok-write_row.ensures rows whole (subst (λ row. Completes c.in_ok-text.text (row ∷ rows) whole) (sym (c.titles.ensures c.version-version.result ∙ ap header_row c.version-version.ensures)) before));
    }

pub next_row-requires-in-loop-n-clause-there : goal.next_row-requires-in-loop-n-clause-there
next_row-requires-in-loop-n-clause-there c =
    let run = c.args.told.now.run in
    let trace = run.case.trace.now in
    next_is_text trace (records_of run.bytes.now) (c.rows_are_text.ensures newest run.layout.now.spaces run.bytes.now trace run.spelled)
    c.loop-n.n (records_left c.loop-n.rows) (omega (arith, c.loop-n.auto.n)) (omega (arith, c.loop-n-test.true, c.loop-n.auto.n-end, c.len-n-end.ensures.count))
    c.loop-n.invariant.left

pub loop-n-preserved : goal.loop-n-preserved
loop-n-preserved c =
    let run = c.args.told.now.run in
    let trace = run.case.trace.now in
    let timings = c.args.told.now.plan.now.timings in
    let n = c.loop-n.n in
    let from : 1 ≤ n = omega (arith, c.loop-n.auto.n) in
    let to : n ≤ length trace.messages = omega (arith, c.loop-n-test.true, c.loop-n.auto.n-end, c.len-n-end.ensures.count) in
    let records = records_of run.bytes.now in
    let are = c.rows_are_text.ensures newest run.layout.now.spaces run.bytes.now trace run.spelled in
    let there = records_left c.loop-n.rows in
    let left = records_left c.next_row-in-loop-n.new.rows in
    let fields = fields_of c.next_row-in-loop-n.new.row in
    let read = c.in_ok-next_row-2.ensures.next in
    let message : message_of trace.messages n ≡ c.message-message.result.now
    = get_or_from_slice_get trace.messages (n - 1) c.message-message.result.now no_message c.message-message.ensures.message in
    let told = message_told (message_of trace.messages n) (timing_of timings n).cost in
    let row =
    ap (λ v. row_with v c.fields_anew.result) c.version-version.ensures
    ∙ c.fields_anew.ensures trace.version told
    (next_has_columns trace records are n there left fields from to c.loop-n.invariant.left read)
    (c.in_ok-spell.ensures.cost ∙ ap decimal c.cost-cost.ensures.cost)
    (c.in_ok-spell.ensures.after ∙ ap after_spelled (c.as_slice.ensures ∙ ap (λ (m : Message). m.after) (sym message))) in
    record {
      reads = c.in_ok-next_row-2.ensures.reads;
      left = next_leaves trace records are n there left fields from to c.loop-n.invariant.left read;
      text = further trace.version trace.messages timings n there left fields (row_with c.version-version.result c.fields_anew.result) c.loop-n.text c.write_row-in-loop-n.new.text
          (text_anew trace.version (drop 1 records) (messages_told trace.messages timings)) from to read row c.in_ok-write_row-2.ensures c.loop-n.invariant.text;
    }

pub returns : goal.returns
returns c =
    let run = c.args.told.now.run in
    let trace = run.case.trace.now in
    let timings = c.args.told.now.plan.now.timings in
    let whole = text_anew trace.version (drop 1 (records_of run.bytes.now)) (messages_told trace.messages timings) in
    let all = none_left trace.version trace.messages timings c.loop-n.n (records_left c.loop-n.rows) c.loop-n.text whole
    (omega (arith, c.loop-n-test.false, c.loop-n.auto.n-end, c.loop-n.auto.n, c.len-n-end.ensures.count)) c.loop-n.invariant.text in
    IfOk-weaker c.finished.result _ _ (λ text same. same whole all) c.finished.ensures
