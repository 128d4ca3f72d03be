-- No earlier message has a wrong finish.
use Rattle.std.proofs.Common.{arith, sym, ◌∙◌}
use Rattle.waff_check.proofs.FirstLaws.{below-more, least-first, none-of}
use Rattle.waff_check.proofs.told.wrong_finish.Goals as goal

pub loop-n-init : goal.loop-n-init
loop-n-init c = λ m lt h. let e = h.number.from in omega arith

pub returns-then-finish : goal.returns-then-finish
returns-then-finish c =
    least-first _ _ c.loop-n.invariant (record { number = record { from = omega arith; to = omega (arith, c.len-n-end.ensures.count) }; wrong = λ e. c.if-finish.true (c.finish.ensures ∙ e ∙ sym c.finish-in-loop-n.ensures.finish) })

pub loop-n-preserved : goal.loop-n-preserved
loop-n-preserved c = below-more _ _ c.loop-n.invariant (λ h. h.wrong (sym c.finish.ensures ∙ c.if-finish.false ∙ c.finish-in-loop-n.ensures.finish))

pub returns : goal.returns
returns c = none-of _ _ c.loop-n.invariant (λ m le h. let e = h.number.to in omega (arith, c.len-n-end.ensures.count))
