use Rattle.std.proofs.Common.{rules, map, option_copied, string_bytes}
use Rattle.waff_plan.specs.Timing.{start_of, work_of}
use Rattle.waff_plan.specs.Totals.{totals_of}
use Rattle.waff_plan.specs.Work.{numbers}
use Rattle.waff_plan_text.specs.Spelling.{message_row, plan_header, summary_lines, workers_of}
use Rattle.waff_plan_text.proofs.LinesLemmas.{three_parts}
use Rattle.waff_plan_text.proofs.writing.manned_text.Goals as goal

pub returns : goal.returns
returns c =
    let work = work_of c.args.timed.now.plan.now.timings in
    let start = start_of c.args.timed.now.plan.now.starts in
    three_parts plan_header (map (message_row c.args.timed.now.case.tree.now c.args.timed.now.case.assigned.now work start (workers_of (option_copied c.args.seats))) (numbers work))
    (summary_lines c.args.timed.now.case.trace.now.version c.args.workers c.args.chain.now (totals_of c.args.workers work start c.args.chain.now))
    (string_bytes c.push_header.new.text) (string_bytes c.push_rows.new.text) (string_bytes c.push_summary.new.text)
    (search rules) c.in_ok-push_rows.ensures
    (rw (c.version-version.ensures, c.totals-totals.ensures.totals) at c.in_ok-push_summary.ensures)
