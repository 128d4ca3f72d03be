use Rattle.std.proofs.Common.{◌∙◌}
use Rattle.waff_assign.specs.Case.{instance_of}
use Rattle.waff_tool.proofs.checks.verdict_on.Goals as goal

pub verdict_of-requires-clause-rows : goal.verdict_of-requires-clause-rows
verdict_of-requires-clause-rows g c κs lives = c.in_ok-given.ensures.messages ∙ c.len.ensures.count

pub verdict_of-requires-clause-version : goal.verdict_of-requires-clause-version
verdict_of-requires-clause-version g c κs lives = c.in_ok-given.ensures.version ∙ c.version.ensures

pub returns-clause-made : goal.returns-clause-made
returns-clause-made g c hierarchy trace accepts = record {
  instance = instance_of c.args.case.now;
  given = c.in_ok-given.given;
  accepts = record { accepts = accepts; is_plan = rw (c.version.ensures, c.len.ensures.count) at c.in_ok-given.ensures.exact };
  verdict = c.in_ok-verdict.ensures.verdict;
  promises = c.in_ok-verdict.ensures.promises;
}
