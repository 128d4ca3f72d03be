use Rattle.std.proofs.Common.{◌+◌, ◌-◌, cond, take, sym, ◌∙◌, ap}
use Rattle.std.proofs.lemmas.Result.{on_ok_weaker}
use Rattle.waff_limits.specs.Data.{ticks_on, used_among}
use Rattle.waff_limits.specs.Edges.{edges_of}
use Rattle.waff_limits.specs.Runs.{used_in_run}
use Rattle.waff_limits.proofs.EdgeLemmas.{same_used}
use Rattle.waff_limits.proofs.Uses.{ticks_more, ticks_with}
use Rattle.waff_limits.proofs.data.add_message.Goals as goal

pub returns-in-Some : goal.returns-in-Some
returns-in-Some c =
    let messages = c.args.trace.now.messages in
    let message = c.message-message.result.now in
    let before = ticks_on (take (c.args.n - 1) messages) in
    let run = c.in-Some.run' in
    on_ok_weaker c.add_run.result
    (λ told are. same_used (edges_of c.add_run.new.self) (used_in_run run before message.cost) (ticks_on (take c.args.n messages))
    (λ cell. ap (λ b. before cell + cond b message.cost 0) (sym (c.in-Some.ensures.cells cell))
    ∙ sym (ticks_with messages c.args.n message c.requires.number c.message-message.ensures.message cell))
    (told before are)) c.add_run.ensures

pub returns-in_ok-cells-in-None : goal.returns-in_ok-cells-in-None
returns-in_ok-cells-in-None c =
    let messages = c.args.trace.now.messages in
    let message = c.message-message.result.now in
    let before = ticks_on (take (c.args.n - 1) messages) in
    let cells = c.in_ok-cells-in-None.cells.items in
    on_ok_weaker c.add_all.result
    (λ told are. same_used (edges_of c.add_all.new.self) (used_among c.as_slice.result.now before message.cost) (ticks_on (take c.args.n messages))
    (λ cell. ap (λ list. used_among list before message.cost cell) c.as_slice.ensures.value
    ∙ sym (ticks_more messages c.args.n message cells c.requires.number c.message-message.ensures.message c.in_ok-cells-in-None.ensures cell))
    (told before are)) c.add_all.ensures
