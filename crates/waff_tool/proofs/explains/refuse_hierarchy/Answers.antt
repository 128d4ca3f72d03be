use Rattle.std.proofs.lemmas.Result.{IfOk-weaker}
use Rattle.waff_tool.proofs.ExplainedFaults.{hierarchy_is_refused}
use Rattle.waff_tool.proofs.explains.refuse_hierarchy.Goals as goal

pub returns : goal.returns
returns c =
    let file = c.args.hierarchy.now in
    IfOk-weaker c.tell.result _ _
    (λ made tells trace plan.
    tells file trace plan (hierarchy_is_refused file trace plan c.args.fault c.in_default.not-Memory c.requires))
    c.tell.ensures
