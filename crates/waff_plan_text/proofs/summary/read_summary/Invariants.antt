use Rattle.std.proofs.Common.{◌≡◌, ◌+◌, ◌≤◌, ◌∷◌, true, IfSome}
use Rattle.csv.specs.Records.{fields_of}
use Rattle.waff_parse.specs.Rows.{Reads, is_text, records_left}
use Rattle.waff_plan.specs.Bound.{IsWorkers}
use Rattle.waff_plan.specs.Chain.{IsListed}
use Rattle.waff_plan_text.specs.Summaries.{summary_of, with_lines}
use Rattle.waff_plan_text.proofs.TableLaws.{left_with, lines_from}
use Rattle.waff_plan_text.proofs.summary.read_summary.Given as goal

abbrev pub invariant-loop-line : goal.invariant-loop-line
invariant-loop-line l = record {
  reads : Reads l.rdr;
  text : l.found ≡ true → is_text (fields_of l.row) ≡ true;
  room : l.at ≤ l.first + l.line-index;
  workers : IfSome l.summary.workers IsWorkers;
  chain : IsListed l.messages l.summary.chain;
  value : with_lines l.messages (lines_from l.version l.lines l.line-index) l.at (left_with l.found (fields_of l.row) (records_left l.rdr)) l.summary
      ≡ summary_of l.version l.messages l.first (fields_of l.initial.row ∷ records_left l.initial.rdr);
}
