use Rattle.std.proofs.Common.{None, option_copied}
use Rattle.std.proofs.lemmas.Result.{IfOk-weaker}
use Rattle.waff_tool.proofs.ExplainedFaults.{hierarchy_is_read}
use Rattle.waff_tool.proofs.explains.explain_under.Goals as goal

pub returns-in-None : goal.returns-in-None
returns-in-None g c =
    IfOk-weaker c.tell.result _ _
    (λ made tells hierarchy is_layout.
    rw c.in-None.is (tells hierarchy None (option_copied c.args.plan) (c.args.layout.now, hierarchy_is_read hierarchy c.args.layout.now is_layout)))
    c.tell.ensures
