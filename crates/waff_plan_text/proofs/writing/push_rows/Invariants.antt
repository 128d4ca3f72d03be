use Rattle.std.proofs.Common.{◌≡◌, ◌-◌, ◌++◌, map, option_copied, string_bytes}
use Rattle.std.specs.List.{range_with_len}
use Rattle.waff_plan.specs.Timing.{start_of, work_of}
use Rattle.waff_plan_text.specs.Lines.{text_of}
use Rattle.waff_plan_text.specs.Spelling.{message_row, workers_of}
use Rattle.waff_plan_text.proofs.writing.push_rows.Given as goal

abbrev pub invariant-loop-n : goal.invariant-loop-n
invariant-loop-n l =
    string_bytes l.text ≡ string_bytes l.initial.text
    ++ text_of (map (message_row l.timed.case.tree.now l.timed.case.assigned.now (work_of l.timed.plan.now.timings) (start_of l.timed.plan.now.starts) (workers_of (option_copied l.seats))) (range_with_len 1 (l.n - 1)))
