use Rattle.std.proofs.Common.{arith}
use Rattle.waff_core.proofs.Marking.{owner_within, left_all, left_less}
use Rattle.waff_core.proofs.owner_set.unmark.Goals as goal

pub loop-at-init : goal.loop-at-init
loop-at-init c = left_all c.args.marks.now c.args.owners.now c.requires

pub bounds-marks-owners : goal.bounds-marks-owners
bounds-marks-owners c = omega (arith, owner_within c.args.marks.now c.args.owners.now c.loop-at.at c.loop-at-test.true c.requires, c.loop-at.auto.marks)

pub loop-at-preserved : goal.loop-at-preserved
loop-at-preserved c =
    left_less c.loop-at.marks c.args.owners.now c.loop-at.at
    (omega (arith, owner_within c.args.marks.now c.args.owners.now c.loop-at.at c.loop-at-test.true c.requires, c.loop-at.auto.marks)) c.loop-at.invariant

pub returns : goal.returns
returns c a = (
  λ marked. let left = c.loop-at.invariant a marked in absurd (omega (arith, left.1, left.2, c.loop-at-test.false)),
  λ none. absurd (omega (arith, none.1)),
)
