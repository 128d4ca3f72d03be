use Rattle.std.proofs.Common.{◌<◌, ◌++◌, ◌∷◌, [], length, arith, sym, ◌∙◌, ap₂}
use Rattle.std.proofs.lemmas.List.{take_all, take_more}
use Rattle.waff_locks.proofs.sets.are_same.Goals as goal

pub loop-i-preserved : goal.loop-i-preserved
loop-i-preserved c =
    let xs = c.args.lockings.now in
    let ys = c.args.others.now in
    let i = c.loop-i.i in
    let there : i < length ys = omega (arith, c.loop-i-test.true, c.if-lockings-others.false) in
    take_more xs i _ c.loop-i-test.true
    ∙ ap₂ (λ front x. front ++ x ∷ []) c.loop-i.invariant (c.differ.ensures c.if-differ.false)
    ∙ sym (take_more ys i _ there)

pub returns : goal.returns
returns c = λ _.
    let xs = c.args.lockings.now in
    let ys = c.args.others.now in
    let i = c.loop-i.i in
    sym (take_all i xs c.loop-i-test.false) ∙ c.loop-i.invariant ∙ take_all i ys (omega (arith, c.loop-i-test.false, c.if-lockings-others.false))
