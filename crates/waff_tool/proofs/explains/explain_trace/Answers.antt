use Rattle.std.proofs.Common.{option_copied}
use Rattle.std.proofs.lemmas.Result.{IfOk-weaker}
use Rattle.waff_tool.proofs.explains.explain_trace.Goals as goal

pub returns-in-Ok : goal.returns-in-Ok
returns-in-Ok g c =
    IfOk-weaker c.explain_read-made.result _ _
    (λ made explained hierarchy is_layout. explained hierarchy c.args.trace.now is_layout c.in-Ok.ensures.exact)
    c.explain_read-made.ensures

pub returns-in-Err : goal.returns-in-Err
returns-in-Err g c =
    IfOk-weaker c.refuse_trace.result _ _
    (λ made refused hierarchy is_layout. refused hierarchy (option_copied c.args.plan) is_layout)
    c.refuse_trace.ensures
