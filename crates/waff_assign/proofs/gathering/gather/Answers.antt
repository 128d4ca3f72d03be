use Rattle.std.proofs.Common.{◌≡◌, ◌+◌, ◌-◌, Some, slice_get, length, arith, ◌∙◌, ap}
use Rattle.std.specs.Prelude.{option_map}
use Rattle.std.proofs.lemmas.List.{length_push}
use Rattle.waff_model.specs.Cells.{cells_of}
use Rattle.waff_model.specs.declared.tree.AffinityId.{AffinityId}
use Rattle.waff_assign.specs.Held.{Held}
use Rattle.waff_assign.specs.Parts.{IsHeldRightly}
use Rattle.waff_assign.proofs.Assignments.{cells_of_layout, held_more, held_rightly, listed_of, locked_of, within_of}
use Rattle.waff_assign.proofs.gathering.gather.Goals as goal

pub list_uses-requires : goal.list_uses-requires
list_uses-requires c =
    let layout = c.args.layout.now in
    let messages = c.args.trace.now.messages in
    let message = c.message.result.now in
    let locks = c.args.locks.now in
    let lists = c.requires.locks in
    record {
      cells = cells_of_layout c.args.trace.now.sizes layout.spaces (cells_of message.ops) c.requires.fits c.message.ensures.within.cells;
      listed = listed_of layout messages locks (c.loop-n.n - 1) message lists c.message.ensures.message;
      locked = locked_of layout messages locks lists;
      rising = lists.rising;
    }

pub lowest_without_locks-requires : goal.lowest_without_locks-requires
lowest_without_locks-requires c = record {
  cells = cells_of_layout c.args.trace.now.sizes c.args.layout.now.spaces (cells_of c.message.result.now.ops) c.requires.fits c.message.ensures.within.cells;
}

pub loop-n-preserved : goal.loop-n-preserved
loop-n-preserved c =
    let layout = c.args.layout.now in
    let messages = c.args.trace.now.messages in
    let message = c.message.result.now in
    let locks = c.args.locks.now in
    let gathered = c.loop-n.gathered in
    let affinity = option_map (λ (a : AffinityId). a.0) c.lowest_without_locks.result in
    let held : Held = record { affinity = affinity; uses = c.deref.result.now } in
    let right : IsHeldRightly layout locks message held
    = held_rightly layout locks message affinity c.deref.result.now c.message.ensures.within.some_ops c.lowest_without_locks.ensures.lowest
    (within_of (length layout.tree) c.lowest_without_locks.result c.lowest_without_locks.ensures.within)
    (rw c.deref.ensures.value c.in_ok-list_uses.ensures.uses) (rw c.deref.ensures.value c.in_ok-list_uses.ensures.some) in
    let here : slice_get messages (c.args.before + length gathered) ≡ Some message = ap (slice_get messages) c.loop-n.invariant.count ∙ c.message.ensures.message in
    record {
      count = rw c.in_ok-push.ensures (omega (arith, length_push gathered held, c.loop-n.invariant.count));
      each = rw c.in_ok-push.ensures (held_more layout locks messages c.args.before gathered message held here right c.loop-n.invariant.each);
    }
