-- No earlier message starts before its client issues it.
use Rattle.std.proofs.Common.{arith, refl}
use Rattle.waff_check.proofs.FirstLaws.{below-more, least-first, none-of, refuted}
use Rattle.waff_check.proofs.told.unissued_start.Goals as goal

pub loop-n-init : goal.loop-n-init
loop-n-init c = λ m lt h. let e = h.held.number.from in omega arith

pub returns-then-starts_unissued : goal.returns-then-starts_unissued
returns-then-starts_unissued c = least-first _ _ c.loop-n.invariant (c.if-starts_unissued.ensures.0 refl)

pub loop-n-preserved : goal.loop-n-preserved
loop-n-preserved c = below-more _ _ c.loop-n.invariant (refuted c.if-starts_unissued.ensures.1)

pub returns : goal.returns
returns c = none-of _ _ c.loop-n.invariant (λ m le h. let e = h.held.number.to in omega (arith, c.len-n-end.ensures.count))
