use Rattle.std.proofs.Common.{◌≡◌, ◌++◌, map, string_bytes}
use Rattle.waff_plan_text.specs.Lines.{text_of}
use Rattle.waff_plan_text.specs.Spelling.{summary_line, summary_lines}
use Rattle.waff_plan_text.proofs.TableLaws.{lines_from}
use Rattle.waff_plan_text.proofs.writing.push_summary.Given as goal

-- what is written, and the lines to come
abbrev pub invariant-loop-line : goal.invariant-loop-line
invariant-loop-line l =
    string_bytes l.text ++ text_of (map (summary_line (record { workers = l.workers; chain = l.chain; totals = l.totals })) (lines_from l.version l.lines l.line-index))
    ≡ string_bytes l.initial.text ++ text_of (summary_lines l.version l.workers l.chain l.totals)
