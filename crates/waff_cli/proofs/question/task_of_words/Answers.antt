use Rattle.std.proofs.lemmas.Result.{IfOk-weaker}
use Rattle.waff_cli.proofs.question.task_of_words.Goals as goal

pub returns-in-Ok : goal.returns-in-Ok
returns-in-Ok g c = IfOk-weaker c.task_of-task.result _ _ (λ task is. record {
  found = c.in-Ok.matches;
  is_found = record {
    parser = c.in_ok-parser.parser;
    parsed = c.in-Ok.ensures.parsed;
    matches = c.in-Ok.ensures.matches;
  };
  is_task = is;
}) c.task_of-task.ensures
