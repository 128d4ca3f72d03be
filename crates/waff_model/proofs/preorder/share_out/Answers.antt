use Rattle.std.proofs.Common.{◌≡◌, ◌<◌, ◌+◌, ◌-◌, length, Some, subst, sym, ◌∙◌, arith}
use Rattle.waff_model.specs.Tree.{parent_of}
use Rattle.waff_model.specs.Preorder.{AreShares}
use Rattle.waff_model.proofs.ShareLemmas.{both_sizes, shares_given, is_given, none_given, start_given}
use Rattle.waff_model.proofs.preorder.share_out.Goals as goal

pub overflow_add-shares : goal.overflow_add-shares
overflow_add-shares c =
    let tree = c.args.nodes.now in
    let b = c.loop-at.at - 1 in
    let p = c.in-Some.parent in
    let parent : parent_of tree b ≡ Some p = sym c.parent.ensures ∙ c.in-Some.is in
    let before : p < b = c.requires.tree.earlier b p parent in
    let are : AreShares tree c.loop-at.shares (b + 1) = subst (AreShares tree c.loop-at.shares) (omega arith) c.loop-at.invariant in
    omega (arith, both_sizes c.loop-at.shares b p before (omega (arith, c.loop-at.auto.shares)), are.left, c.requires.tree.few)

pub loop-at-init : goal.loop-at-init
loop-at-init c =
    let are = start_given c.args.nodes.now c.args.shares.now c.requires.leaves in
    subst (AreShares c.args.nodes.now c.args.shares.now) (sym are.count) are

pub loop-at-preserved : goal.loop-at-preserved
loop-at-preserved c =
    let tree = c.args.nodes.now in
    let b = c.loop-at.at - 1 in
    let are : AreShares tree c.loop-at.shares (b + 1) = subst (AreShares tree c.loop-at.shares) (omega arith) c.loop-at.invariant in
    none_given tree c.loop-at.shares b (omega (arith, are.count)) (sym c.parent.ensures ∙ c.in_default.is) are

pub loop-at-preserved-in-Some : goal.loop-at-preserved-in-Some
loop-at-preserved-in-Some c =
    let tree = c.args.nodes.now in
    let shares = c.loop-at.shares in
    let b = c.loop-at.at - 1 in
    let p = c.in-Some.parent in
    let parent : parent_of tree b ≡ Some p = sym c.parent.ensures ∙ c.in-Some.is in
    let before : p < b = c.requires.tree.earlier b p parent in
    let are : AreShares tree shares (b + 1) = subst (AreShares tree shares) (omega arith) c.loop-at.invariant in
    let here : b < length shares = omega arith in
    shares_given tree c.requires.tree shares _ b p before (omega (arith, are.count)) parent are (is_given shares b p _ before here)

pub returns : goal.returns
returns c = subst (AreShares c.args.nodes.now c.loop-at.shares) (omega arith) c.loop-at.invariant
