use Rattle.std.proofs.Common.{Some, None}
use Rattle.std.proofs.lemmas.Result.{IfOk-weaker}
use Rattle.waff_tool.proofs.ExplainedFaults.{trace_is_read}
use Rattle.waff_tool.proofs.explains.explain_read.Goals as goal

pub returns-in-None : goal.returns-in-None
returns-in-None g c =
    IfOk-weaker c.tell.result _ _
    (λ made tells hierarchy trace is_layout is_trace.
    rw c.in-None.is
    (tells hierarchy (Some trace) None ((c.args.layout.now, c.args.trace.now), trace_is_read hierarchy trace c.args.layout.now c.args.trace.now is_layout is_trace)))
    c.tell.ensures
