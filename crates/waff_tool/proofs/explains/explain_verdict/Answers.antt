use Rattle.std.proofs.Common.{Some}
use Rattle.std.proofs.lemmas.Result.{IfOk-weaker}
use Rattle.waff_assign.specs.Case.{instance_of}
use Rattle.waff_tool.proofs.explains.explain_verdict.Goals as goal

pub returns : goal.returns
returns g c =
    IfOk-weaker c.tell.result _ _
    (λ made tells hierarchy trace accepts.
    tells hierarchy (Some trace) (Some c.args.plan.now) (record {
      instance = instance_of c.args.case.now;
      given = c.args.given.now;
      accepts = record { accepts = accepts; is_plan = c.requires.plan };
      verdict = c.in_ok-verdict.ensures.verdict;
      promises = c.in_ok-verdict.ensures.promises;
    }))
    c.tell.ensures
