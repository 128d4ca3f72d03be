-- The first digits that differ tell.
use Rattle.waff_parse.proofs.NumberOrder.{differ_tell}
use Rattle.waff_parse.proofs.text.digits_at_most.Goals as goal

pub returns-then-first-place : goal.returns-then-first-place
returns-then-first-place c =
    differ_tell c.args.first.now c.args.second.now c.loop-place.place c.requires.first c.requires.second c.requires.same c.loop-place.invariant.same c.loop-place-test.true c.if-first-place.true
