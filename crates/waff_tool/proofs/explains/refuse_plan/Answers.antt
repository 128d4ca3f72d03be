use Rattle.std.proofs.lemmas.Result.{IfOk-weaker}
use Rattle.std.proofs.Common.{Some}
use Rattle.waff_tool.proofs.ExplainedFaults.{plan_is_refused}
use Rattle.waff_tool.proofs.explains.refuse_plan.Goals as goal

pub returns : goal.returns
returns c =
    let file = c.args.plan.now in
    IfOk-weaker c.tell.result _ _
    (λ made tells hierarchy trace layout is_layout is_trace.
    tells hierarchy (Some trace) (Some file)
    (plan_is_refused hierarchy trace file layout c.args.trace.now c.args.fault c.in_default.not-Memory is_layout is_trace c.requires))
    c.tell.ensures
