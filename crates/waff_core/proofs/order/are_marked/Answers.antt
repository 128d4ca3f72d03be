use Rattle.std.proofs.Common.{All, arith, refl, subst}
use Rattle.std.proofs.lemmas.List.{take_all}
use Rattle.std.proofs.lemmas.List.Elements.{All-more}
use Rattle.waff_core.specs.Orders.{IsMarked}
use Rattle.waff_core.proofs.order.are_marked.Goals as goal

pub loop-at-preserved : goal.loop-at-preserved
loop-at-preserved c =
    All-more (IsMarked c.args.marks.now) c.args.messages.now c.loop-at.at 0 c.loop-at-test.true c.loop-at.invariant
    c.if-not-marks-messages.false

pub returns : goal.returns
returns c =
    let whole = take_all c.loop-at.at c.args.messages.now (omega arith) in
    (λ is. subst (All (IsMarked c.args.marks.now)) whole c.loop-at.invariant, λ all. refl)
