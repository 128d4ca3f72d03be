use Rattle.std.proofs.Common.{ℕ, ◌<◌, List, length, arith, subst}
use Rattle.waff_model.specs.Tree.{Node, AtOrAbove}
use Rattle.waff_assign.proofs.Coverings.{lowest_of_first, lowest_of_more, lowest_of_all}
use Rattle.waff_assign.proofs.covering.lowest.Goals as goal

pub loop-i-init : goal.loop-i-init
loop-i-init c =
    lowest_of_first c.args.layout.now c.args.cells.now c.owner-low.result.0 _ c.requires.some c.owner-low.ensures.within c.owner-low.ensures.owner

pub loop-i-preserved : goal.loop-i-preserved
loop-i-preserved c =
    let tree = c.args.layout.now.tree in
    let low = c.loop-i.low.0 in
    let owner = c.owner-owner.result.0 in
    let lower = c.lowest_above-low.result.0 in
    let h = c.lowest_above-low.ensures in
    let same = c.tree.ensures in
    lowest_of_more c.args.layout.now c.args.cells.now c.loop-i.i low owner lower _ c.loop-i-test.true
    (subst (λ (t : List Node). lower < length t) same h.within)
    c.owner-owner.ensures.owner c.loop-i.invariant
    (subst (λ (t : List Node). AtOrAbove t lower low) same h.first)
    (subst (λ (t : List Node). AtOrAbove t lower owner) same h.second)
    (subst (λ (t : List Node). (a : ℕ) → AtOrAbove t a low → AtOrAbove t a owner → AtOrAbove t a lower) same h.lowest)

pub returns-clause-lowest : goal.returns-clause-lowest
returns-clause-lowest c = lowest_of_all c.args.layout.now c.args.cells.now c.loop-i.i c.loop-i.low.0 (omega arith) c.loop-i.invariant
