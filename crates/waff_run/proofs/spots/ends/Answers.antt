use Rattle.std.proofs.Common.{◌≡◌, ◌-◌, ◌+◌, [], length, take, sym, subst, arith, rules}
use Rattle.std.proofs.lemmas.List.{take_all, with_items_is}
use Rattle.waff_run.specs.Named.{AreEnds, cells_named}
use Rattle.waff_run.proofs.Ending.{no_ends}
use Rattle.waff_run.proofs.Listing.{named_more}
use Rattle.waff_run.proofs.spots.ends.Goals as goal

pub loop-m-init : goal.loop-m-init
loop-m-init c =
    subst (AreEnds c.args.places.now []) (sym (search rules)) (no_ends c.args.places.now)

pub loop-m-preserved : goal.loop-m-preserved
loop-m-preserved c =
    let places = c.args.places.now in
    let messages = c.args.trace.now.messages in
    let before = cells_named (take (c.loop-m.m - 1) messages) in
    let after = cells_named (take (c.loop-m.m + 1 - 1) messages) in
    let more : AreEnds places after c.note_ends.new.ends
    = subst (λ cells. AreEnds places cells c.note_ends.new.ends)
    (named_more messages c.loop-m.m c.message.result.now (omega arith) c.message.ensures.message)
    (c.note_ends.ensures before (subst (AreEnds places before) (sym c.deref_mut.ensures.value) c.loop-m.invariant)) in
    let long : length c.note_ends.new.ends ≡ c.loop-m.ends.len = omega (arith, more.count, c.loop-m.invariant.count, c.loop-m.ends.ok.0) in
    subst (AreEnds places after) (sym (with_items_is c.loop-m.ends c.note_ends.new.ends long)) more

pub returns : goal.returns
returns c =
    subst (λ messages. AreEnds c.args.places.now (cells_named messages) c.loop-m.ends.items)
    (take_all (c.loop-m.m - 1) c.args.trace.now.messages (omega arith)) c.loop-m.invariant
