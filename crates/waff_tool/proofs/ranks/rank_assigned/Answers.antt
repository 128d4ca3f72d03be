use Rattle.std.proofs.Common.{sym}
use Rattle.std.proofs.lemmas.Result.{IfOk-weaker}
use Rattle.waff_assign.specs.Instance.{Instance}
use Rattle.waff_tool.proofs.ranks.rank_assigned.Goals as goal

pub returns : goal.returns
returns g c =
    let instance : Instance = record { tree = c.tree.result.now; assigned = c.in_ok-assigned.assigned; trace = c.args.trace.now } in
    IfOk-weaker c.rank_planned-ranked.result _ _
    (λ ranked under file trace_file is_layout is_trace. record {
      instance = instance;
      accepts = record {
        layout = c.args.layout.now;
        is_layout = is_layout;
        tree = sym c.tree.ensures;
        is_trace = is_trace;
        assignment = c.in_ok-assigned.ensures.assignment;
      };
      under = under;
    })
    c.rank_planned-ranked.ensures
