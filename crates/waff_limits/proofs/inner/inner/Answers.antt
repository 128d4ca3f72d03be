use Rattle.std.proofs.Common.{◌≡◌, false, replicate, rules, Some, arith, sym, ◌∙◌, ap, subst}
use Rattle.waff_model.specs.Tree.{parent_of}
use Rattle.waff_limits.proofs.InnerLemmas.{AreInnerBelow, all_marked, none_marked, none_more, one_more}
use Rattle.waff_limits.proofs.inner.inner.Goals as goal
use Rattle.waff_limits.proofs.inner.inner.Goals.{in-Some, in-None}

pub loop-b-init : goal.loop-b-init
loop-b-init c =
    let same : c.in_ok-inner.inner.items ≡ replicate c.len-count.result false = search rules in
    subst (λ marks. AreInnerBelow c.args.tree.now marks 0) (sym (same ∙ ap (λ n. replicate n false) c.len-count.ensures.count)) (none_marked c.args.tree.now)

pub loop-b-preserved : goal.loop-b-preserved
loop-b-preserved c =
    let tree = c.args.tree.now in
    let marks = c.loop-b.inner.items in
    let b = c.loop-b.b in
    elim c.match-parent.branch [
      | in-Some w ↦ rw w.inner-is
          (let is : parent_of tree b ≡ Some w.in-Some.parent.0 = sym w.in-Some.ensures in
          let up = c.len-count.ensures.tree.rooted.earlier b w.in-Some.parent.0 is in
          one_more tree marks b w.in-Some.parent.0 c.loop-b.invariant is (omega (arith, up, c.loop-b-test.true, c.len-count.ensures.count)))
      | in-None w ↦ rw w.inner-is (none_more tree marks b c.loop-b.invariant (sym w.in-None.ensures))
    ]

pub returns : goal.returns
returns c =
    all_marked c.args.tree.now c.loop-b.inner.items c.loop-b.b (omega (arith, c.loop-b-test.false, c.loop-b.auto.b-end, c.len-count.ensures.count)) c.loop-b.invariant
