use Rattle.std.proofs.Common.{◌≡◌, ◌+◌, take, get_or, false, arith, sym, ◌∙◌, ap, subst}
use Rattle.std.proofs.lemmas.List.{take_all, take_more}
use Rattle.waff_assign.specs.declared.held.LockUse.{LockUse}
use Rattle.waff_order.specs.Takers.{AreTouched, note_use, note_uses}
use Rattle.waff_order.proofs.TakerLemmas.{note_uses-push}
use Rattle.waff_order.proofs.takers.Takers.note_used.Goals as goal

pub loop-used-preserved : goal.loop-used-preserved
loop-used-preserved c = λ states h.
    let uses = c.args.uses.now in
    let k = c.loop-used.used-index in
    let none : LockUse = record { lock = 0; alone = false } in
    let u : LockUse = get_or uses k none in
    let before = note_uses c.args.m states (take k uses) in
    let more : note_uses c.args.m states (take (k + 1) uses) ≡ note_use c.args.m before u
    = ap (note_uses c.args.m states) (take_more uses k none c.loop-used-test.true) ∙ note_uses-push c.args.m states (take k uses) u in
    let held = c.loop-used.invariant states h in (
      rw more (c.in_ok-note_one.ensures.kept before held.0),
      λ touched. subst (λ s. AreTouched c.args.root s c.note_one.new.self.touched.items) (sym more)
          (c.in_ok-note_one.ensures.touched before held.0 (held.1 touched)),
    )

pub returns-clause-touched : goal.returns-clause-touched
returns-clause-touched c = λ states h touched.
    let uses = c.args.uses.now in
    let whole = take_all c.loop-used.used-index uses (let test = c.loop-used-test.false in omega arith) in
    subst (λ xs. AreTouched c.args.root (note_uses c.args.m states xs) c.loop-used.self.touched.items) whole ((c.loop-used.invariant states h).1 touched)
