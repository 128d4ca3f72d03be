use Rattle.std.proofs.Common.{option_copied, string_bytes}
use Rattle.waff_plan.specs.Timing.{start_of, work_of}
use Rattle.waff_plan_text.specs.Spelling.{message_row, workers_of}
use Rattle.waff_plan_text.proofs.LinesLemmas.{rows_further}
use Rattle.waff_plan_text.proofs.writing.push_rows.Goals as goal

pub loop-n-preserved : goal.loop-n-preserved
loop-n-preserved c =
    rows_further
    (message_row c.args.timed.now.case.tree.now c.args.timed.now.case.assigned.now (work_of c.args.timed.now.plan.now.timings) (start_of c.args.timed.now.plan.now.starts) (workers_of (option_copied c.args.seats)))
    c.loop-n.n (string_bytes c.args.text.now) (string_bytes c.loop-n.text) (string_bytes c.push_plan_row.new.text)
    c.loop-n.auto.n c.loop-n.invariant
    (rw (c.affinity_name-affinity.ensures, c.start.ensures.start, c.finish.ensures.finish, c.worker_of-worker.ensures) at c.in_ok-push_plan_row.ensures)
