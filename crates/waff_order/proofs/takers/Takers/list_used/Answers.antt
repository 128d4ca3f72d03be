use Rattle.std.proofs.Common.{◌++◌, get_or, take, false, sym, ◌∙◌, ap}
use Rattle.std.specs.Prelude.{flat_map}
use Rattle.std.proofs.lemmas.List.{flat_map_more, take_more}
use Rattle.waff_assign.specs.declared.held.LockUse.{LockUse}
use Rattle.waff_order.specs.Takers.{needs_at, state_at}
use Rattle.waff_order.proofs.takers.Takers.list_used.Goals as goal

pub loop-used-preserved : goal.loop-used-preserved
loop-used-preserved c = λ states h.
    let uses = c.args.uses.now in
    let before = c.args.needs.now.items in
    let k = c.loop-used.used-index in
    let none : LockUse = record { lock = 0; alone = false } in
    let u : LockUse = get_or uses k none in
    let f = λ (x : LockUse). needs_at c.args.root x.alone (state_at states x.lock) in
    c.in_ok-list_one.ensures states h ∙ ap (λ xs. xs ++ f u) (c.loop-used.invariant states h) ∙ flat_map_more f before (take k uses) u
    ∙ ap (λ xs. before ++ flat_map f xs) (sym (take_more uses k none c.loop-used-test.true))
