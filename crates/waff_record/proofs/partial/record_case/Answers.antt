use Rattle.std.proofs.Common.{string_bytes}
use Rattle.std.proofs.lemmas.Result.{IfOk-weaker}
use Rattle.waff_plan.proofs.TimingLemmas.{are_timings}
use Rattle.waff_record.proofs.Stopped.{stopped_run, stopped_told}
use Rattle.waff_record.proofs.partial.record_case.Goals as goal

pub record_of-requires-clause-ran : goal.record_of-requires-clause-ran
record_of-requires-clause-ran c =
    stopped_run c.args.run.now c.args.kept.now c.args.case c.requires.assigned c.requires.reached c.requires.left c.requires.cut c.requires.tree c.len-affinities.ensures.tree
    c.requires.assignment (are_timings c.args.case.trace.now c.len-messages.ensures.trace)
    (λ course is. record {
      plan = c.run_is_worker_plan.ensures course is;
      runs = c.run_obeys.ensures.runs course is;
      there = c.workers_run_one.ensures.there course is;
      after = c.workers_run_one.ensures.after course is;
      once = c.runs_once.ensures.each course is;
    }) c.args.turns.now c.requires.turns

pub returns : goal.returns
returns c =
    IfOk-weaker c.record_of.result _ _
    (λ told texts.
    stopped_told c.args.run.now c.args.kept.now c.args.case c.requires.assigned c.requires.reached c.requires.left c.requires.cut c.requires.tree c.len-affinities.ensures.tree c.requires.assignment
    (are_timings c.args.case.trace.now c.len-messages.ensures.trace)
    (λ course is. record {
      plan = c.run_is_worker_plan.ensures course is;
      runs = c.run_obeys.ensures.runs course is;
      there = c.workers_run_one.ensures.there course is;
      after = c.workers_run_one.ensures.after course is;
      once = c.runs_once.ensures.each course is;
    }) c.args.run.now.hierarchy.now told.measured.items (string_bytes told.text) told.drift c.args.turns.now c.requires.turns texts)
    c.record_of.ensures.texts
