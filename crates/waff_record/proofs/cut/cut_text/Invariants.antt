use Rattle.std.proofs.Common.{◌≡◌, ◌-◌, drop}
use Rattle.waff_parse.specs.Rows.{Reads, records_left, records_of}
use Rattle.waff_record.proofs.cut.cut_text.Given as goal

abbrev pub invariant-loop-n : goal.invariant-loop-n
invariant-loop-n l = record {
  reads : Reads l.rows;
  left : records_left l.rows ≡ drop (l.n - 1) (drop 1 (records_of l.run.bytes.now));
}
