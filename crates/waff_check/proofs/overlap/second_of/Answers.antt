-- No earlier message overlaps.
use Rattle.std.proofs.Common.{arith, refl}
use Rattle.waff_check.proofs.FirstLaws.{below-more, least-first, none-of, refuted}
use Rattle.waff_check.proofs.OverlapLaws.{pair_of}
use Rattle.waff_check.proofs.overlap.second_of.Goals as goal

pub loop-j-init : goal.loop-j-init
loop-j-init c = λ m lt h. let e = (pair_of c.args.planned.now c.args.i m h).earlier in let f = c.requires.number.from in omega arith

pub returns-then-overlaps : goal.returns-then-overlaps
returns-then-overlaps c = least-first _ _ c.loop-j.invariant (c.if-overlaps.ensures.0 refl)

pub loop-j-preserved : goal.loop-j-preserved
loop-j-preserved c = below-more _ _ c.loop-j.invariant (refuted c.if-overlaps.ensures.1)

pub returns : goal.returns
returns c =
    none-of _ _ c.loop-j.invariant
    (λ m le h. let e = (pair_of c.args.planned.now c.args.i m h).to in omega (arith, c.len-messages.ensures.count, c.args.planned.now.lengths))
