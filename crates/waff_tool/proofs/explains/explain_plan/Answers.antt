use Rattle.std.proofs.Common.{sym}
use Rattle.std.proofs.lemmas.Result.{IfOk-weaker}
use Rattle.waff_tool.proofs.explains.explain_plan.Goals as goal

pub returns : goal.returns
returns g c =
    IfOk-weaker c.explain_case-made.result _ _
    (λ made explained hierarchy trace is_layout is_trace.
    explained hierarchy trace (record {
      layout = c.args.layout.now;
      is_layout = is_layout;
      tree = sym c.tree.ensures;
      is_trace = is_trace;
      assignment = c.in_ok-assigned.ensures.assignment;
    }))
    c.explain_case-made.ensures
