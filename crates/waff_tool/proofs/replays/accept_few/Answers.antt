use Rattle.std.proofs.Common.{rules, subst}
use Rattle.waff_model.specs.Layout.{HasFewCells, Hierarchy}
use Rattle.waff_inputs.specs.Inputs.{IsRefusal, trace_over}
use Rattle.waff_tool.proofs.UnlockedReplays.{refuses_unlocked}
use Rattle.waff_tool.proofs.replays.accept_few.Goals as goal

pub returns-in-Err-accept_over_layout-clause-refused : goal.returns-in-Err-accept_over_layout-clause-refused
returns-in-Err-accept_over_layout-clause-refused g c =
    let layout = c.in-Ok.layout in
    let error = c.in-Err-accept_over_layout.error in
    let few : HasFewCells layout.spaces = search rules in
    refuses_unlocked c.args.hierarchy.now c.args.trace.now layout error c.in-Ok.ensures.layout few
    (subst (λ (l : Hierarchy). IsRefusal (trace_over l c.args.trace.now) error) c.without_locks.ensures.layout c.in-Err-accept_over_layout.ensures.refused)
