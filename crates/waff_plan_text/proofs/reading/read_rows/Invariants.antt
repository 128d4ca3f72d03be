use Rattle.std.proofs.Common.{◌≡◌, ◌+◌, length}
use Rattle.waff_parse.specs.Rows.{Reads, records_left}
use Rattle.waff_plan_text.specs.PlanTexts.{plan_after, plan_of_rows}
use Rattle.waff_plan_text.proofs.reading.read_rows.Given as goal

abbrev pub invariant-loop-slots : goal.invariant-loop-slots
invariant-loop-slots l = record {
  reads : Reads l.rdr;
  count : length l.slots ≡ l.messages;
  room : l.at + length (records_left l.rdr) ≡ 2 + length (records_left l.initial.rdr);
  plan : plan_after l.version l.messages l.at l.slots (records_left l.rdr) ≡ plan_of_rows l.version l.messages (records_left l.initial.rdr);
}

abbrev pub decreases-loop-slots : goal.decreases-loop-slots
decreases-loop-slots l = length (records_left l.rdr)
