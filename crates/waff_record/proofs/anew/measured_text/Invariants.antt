use Rattle.std.proofs.Common.{◌≡◌, ◌-◌, drop}
use Rattle.waff_parse.specs.Rows.{Reads, records_left, records_of}
use Rattle.waff_read.specs.Anew.{rows_anew, text_anew}
use Rattle.waff_record.specs.Runs.{messages_told}
use Rattle.waff_record.specs.Writing.{Completes}
use Rattle.waff_record.proofs.anew.measured_text.Given as goal

-- what is written, and the records to come
abbrev pub invariant-loop-n : goal.invariant-loop-n
invariant-loop-n l = record {
  reads : Reads l.rows;
  left : records_left l.rows ≡ drop (l.n - 1) (drop 1 (records_of l.told.run.bytes.now));
  text : Completes l.text
      (rows_anew l.told.run.case.trace.now.version (records_left l.rows) (drop (l.n - 1) (messages_told l.told.run.case.trace.now.messages l.told.plan.now.timings)))
      (text_anew l.told.run.case.trace.now.version (drop 1 (records_of l.told.run.bytes.now))
      (messages_told l.told.run.case.trace.now.messages l.told.plan.now.timings));
}
