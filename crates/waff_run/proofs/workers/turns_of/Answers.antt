use Rattle.waff_record.proofs.Ended.{all_ended, run_turns}
use Rattle.waff_run.proofs.workers.turns_of.Goals as goal

pub returns-in-Ok-clause-ran : goal.returns-in-Ok-clause-ran
returns-in-Ok-clause-ran g c =
    let course = g.C.RunOf.course in
    let is = c.requires in
    run_turns course is (record {
      plan = c.run_is_worker_plan.ensures course is;
      runs = c.run_obeys.ensures.runs course is;
      there = c.workers_run_one.ensures.there course is;
      after = c.workers_run_one.ensures.after course is;
      once = c.runs_once.ensures.each course is;
    }) c.turns-turns.result.now c.in-Ok.turns.items c.turns-turns.ensures.reached c.if-not-have_ended.ensures c.in-Ok.ensures.items

pub returns-in-Ok-clause-ended : goal.returns-in-Ok-clause-ended
returns-in-Ok-clause-ended g c =
    all_ended g.C.RunOf.course c.args.line.now.state c.turns-turns.result.now c.turns-turns.ensures.shown c.turns-turns.ensures.many
    c.if-not-have_ended.ensures
