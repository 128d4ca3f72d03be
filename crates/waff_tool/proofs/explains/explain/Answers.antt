use Rattle.std.proofs.Common.{option_copied}
use Rattle.std.proofs.lemmas.Result.{IfOk-weaker}
use Rattle.waff_tool.proofs.explains.explain.Goals as goal

pub returns : goal.returns
returns g c =
    IfOk-weaker c.tell_near.result _ _
    (λ more stays.
    stays c.args.hierarchy.now (option_copied c.args.trace) (option_copied c.args.plan) c.in_ok-made.ensures)
    c.tell_near.ensures
