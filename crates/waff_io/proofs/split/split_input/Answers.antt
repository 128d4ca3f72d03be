use Rattle.std.proofs.Common.{sym, arith}
use Rattle.waff_io.proofs.SplitLemmas.{at_mark, without_mark}
use Rattle.waff_io.proofs.split.split_input.Goals as goal

pub returns-in-Some-clause-before : goal.returns-in-Some-clause-before
returns-in-Some-clause-before c =
    (at_mark c.args.input.now c.in-Some.rest.now c.loop-place.place c.loop-place-test.true c.loop-place.invariant (sym c.if-not-begins_line.ensures) c.in-Some.ensures).0

pub returns-in-Some-clause-after : goal.returns-in-Some-clause-after
returns-in-Some-clause-after c =
    (at_mark c.args.input.now c.in-Some.rest.now c.loop-place.place c.loop-place-test.true c.loop-place.invariant (sym c.if-not-begins_line.ensures) c.in-Some.ensures).1

pub returns-clause-before : goal.returns-clause-before
returns-clause-before c = (without_mark c.args.input.now (λ k before. c.loop-place.invariant k (omega (arith, c.loop-place-test.false, before)))).0

pub returns-clause-after : goal.returns-clause-after
returns-clause-after c = (without_mark c.args.input.now (λ k before. c.loop-place.invariant k (omega (arith, c.loop-place-test.false, before)))).1
