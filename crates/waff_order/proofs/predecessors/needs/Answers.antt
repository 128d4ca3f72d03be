use Rattle.std.proofs.Common.{◌≡◌, ◌+◌, ◌-◌, ◌++◌, ◌∷◌, [], length, take, sum_by, arith, ◌∙◌, ap, subst}
use Rattle.std.proofs.lemmas.List.{take_more, take_all}
use Rattle.waff_assign.specs.Held.{nothing}
use Rattle.waff_assign.specs.Order.{held_of}
use Rattle.waff_order.specs.Needs.{IsWithinDepth}
use Rattle.waff_order.specs.Joined.{HaveJoined}
use Rattle.waff_order.proofs.OneMore.{needs_by_depth, unlocked_places}
use Rattle.waff_order.proofs.predecessors.needs.Goals as goal

pub loop-m-init : goal.loop-m-init
loop-m-init c = c.in_ok-joining.ensures.joined c.spans-spans.result.now c.spans-spans.ensures

pub loop-m-preserved : goal.loop-m-preserved
loop-m-preserved c =
    let assigned = c.args.assigned.now in
    let n = c.loop-m.m - 1 in
    let next : c.loop-m.m + 1 - 1 ≡ n + 1 = omega arith in
    let more : take (c.loop-m.m + 1 - 1) assigned ≡ take n assigned ++ held_of assigned c.loop-m.m ∷ []
    = ap (λ k. take k assigned) next ∙ take_more assigned n nothing (omega arith) in
    rw more (c.in_ok-join.ensures.joined c.args.tree.now (take n assigned) c.loop-m.invariant)

pub returns-clause-few : goal.returns-clause-few
returns-clause-few c = λ depth unlocked within.
    let assigned = c.args.assigned.now in
    let whole : take (c.loop-m.m - 1) assigned ≡ assigned = take_all (c.loop-m.m - 1) assigned (omega arith) in
    let joined = subst (λ xs. HaveJoined c.args.tree.now c.spans-spans.result.now xs c.loop-m.joining) whole c.loop-m.invariant in
    let all : sum_by length c.needs.result ≡ sum_by length c.loop-m.joining.needs = ap (λ xs. sum_by length xs) c.needs.ensures in
    let places = unlocked_places assigned unlocked in
    needs_by_depth (length assigned) (sum_by length c.needs.result) depth (omega (arith, all, joined.twice, places))
    (λ none. let flat = joined.flat (subst (λ d. IsWithinDepth c.args.tree.now d) none within) unlocked in omega (arith, all, flat))
