-- No earlier message has the worker.
use Rattle.std.proofs.Common.{arith, refl}
use Rattle.waff_check.proofs.FirstLaws.{below-more, none-of, refuted}
use Rattle.waff_check.proofs.worker.is_taken.Goals as goal

pub loop-i-init : goal.loop-i-init
loop-i-init c = λ m lt h. let e = h.from in omega arith

pub returns-then-is_taken_by : goal.returns-then-is_taken_by
returns-then-is_taken_by c = (λ t. (c.loop-i.i, c.if-is_taken_by.ensures.0 refl), λ h. refl)

pub loop-i-preserved : goal.loop-i-preserved
loop-i-preserved c = below-more _ _ c.loop-i.invariant (refuted c.if-is_taken_by.ensures.1)

pub returns : goal.returns
returns c =
    let none = none-of _ _ c.loop-i.invariant (λ m le h. let e = h.earlier in omega arith) in
    (λ t. absurd (cc t), λ h. absurd (none h.0 h.1))
