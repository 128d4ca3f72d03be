use Rattle.std.proofs.Common.{◌≡◌, ◌+◌, ◌-◌, ◌<◌, ◌≤◌, get_or, length, Some, None, sum_by, arith, sym, subst}
use Rattle.waff_model.specs.Tree.{parent_of}
use Rattle.waff_figures.proofs.BelowLemmas.{IsSummedFrom, start_summed, give, give_none, give_within}
use Rattle.waff_figures.proofs.below.sum_up.Goals as goal

pub loop-a-init : goal.loop-a-init
loop-a-init c =
    let tree = c.args.tree.now in
    let sums = c.args.sums.now in
    subst (IsSummedFrom tree sums sums) (sym c.len-a.ensures.count)
    (start_summed tree c.len-a.ensures.tree.rooted sums c.requires.lengths)

pub overflow_add-sums : goal.overflow_add-sums
overflow_add-sums c =
    let tree = c.args.tree.now in
    let b = c.loop-a.a - 1 in
    let next : c.loop-a.a ≡ b + 1 = omega (arith, c.loop-a-test.true) in
    let parent : parent_of tree b ≡ Some c.in-Some.parent.0 = sym c.in-Some.ensures in
    let within : b < length tree = omega (arith, c.loop-a.auto.a, c.loop-a-test.true, c.len-a.ensures.count) in
    let all : get_or c.loop-a.sums c.in-Some.parent.0 0 + get_or c.loop-a.sums b 0 ≤ sum_by (λ n. n) c.args.sums.now
    = give_within tree c.len-a.ensures.tree.rooted c.args.sums.now c.requires.lengths c.loop-a.sums b c.in-Some.parent.0 within parent
    (subst (IsSummedFrom tree c.args.sums.now c.loop-a.sums) next c.loop-a.invariant) in
    omega (arith, all, c.requires.small)

pub loop-a-preserved : goal.loop-a-preserved
loop-a-preserved c =
    let tree = c.args.tree.now in
    let b = c.loop-a.a - 1 in
    let next : c.loop-a.a ≡ b + 1 = omega (arith, c.loop-a-test.true) in
    let none : parent_of tree b ≡ None = sym c.in_default.ensures in
    give_none tree c.len-a.ensures.tree.rooted c.args.sums.now c.requires.lengths c.loop-a.sums b
    (omega (arith, c.loop-a.auto.a, c.loop-a-test.true, c.len-a.ensures.count)) none
    (subst (IsSummedFrom tree c.args.sums.now c.loop-a.sums) next c.loop-a.invariant)

pub loop-a-preserved-in-Some : goal.loop-a-preserved-in-Some
loop-a-preserved-in-Some c =
    let tree = c.args.tree.now in
    let b = c.loop-a.a - 1 in
    let next : c.loop-a.a ≡ b + 1 = omega (arith, c.loop-a-test.true) in
    let parent : parent_of tree b ≡ Some c.in-Some.parent.0 = sym c.in-Some.ensures in
    give tree c.len-a.ensures.tree.rooted c.args.sums.now c.requires.lengths c.loop-a.sums b c.in-Some.parent.0
    (omega (arith, c.loop-a.auto.a, c.loop-a-test.true, c.len-a.ensures.count)) parent
    (subst (IsSummedFrom tree c.args.sums.now c.loop-a.sums) next c.loop-a.invariant)
