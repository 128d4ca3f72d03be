use Rattle.std.proofs.lemmas.Result.{IfOk-weaker}
use Rattle.std.proofs.Common.{Some}
use Rattle.waff_tool.proofs.ExplainedFaults.{trace_is_refused}
use Rattle.waff_tool.proofs.explains.refuse_trace.Goals as goal

pub returns : goal.returns
returns c =
    let file = c.args.trace.now in
    IfOk-weaker c.tell.result _ _
    (λ made tells hierarchy plan is_layout.
    tells hierarchy (Some file) plan
    (trace_is_refused hierarchy file plan c.args.layout.now c.args.fault c.in_default.not-Memory is_layout c.requires))
    c.tell.ensures
