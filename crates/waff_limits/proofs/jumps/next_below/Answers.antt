use Rattle.std.proofs.Common.{◌≡◌, ◌<◌, Some, arith, eq-eqb, sym, ◌∙◌}
use Rattle.std.proofs.lemmas.Bool.{false≢true}
use Rattle.waff_model.specs.Tree.{parent_of}
use Rattle.waff_model.proofs.TreeLemmas.{above_child, above_parent, reflexive, transitive}
use Rattle.waff_limits.proofs.jumps.next_below.Goals as goal

pub jump_below-at-requires-clause-above : goal.jump_below-at-requires-clause-above
jump_below-at-requires-clause-above c =
    above_parent c.args.tree.now c.args.above.0 c.loop-parent.at.0 c.in-Some.parent.0 c.loop-parent.invariant.apart (sym c.in-Some.ensures)
    c.loop-parent.invariant.above

pub jump_below-at-requires-clause-below : goal.jump_below-at-requires-clause-below
jump_below-at-requires-clause-below c = λ same. false≢true (sym c.if-eq.false ∙ c.eq.ensures ∙ eq-eqb c.in-Some.parent.0 c.args.above.0 (sym same))

pub loop-parent-preserved : goal.loop-parent-preserved
loop-parent-preserved c =
    let tree = c.args.tree.now in
    let at = c.loop-parent.at.0 in
    let parent = c.in-Some.parent.0 in
    let is : parent_of tree at ≡ Some parent = sym c.in-Some.ensures in
    let earlier : parent < at = c.len.ensures.tree.rooted.earlier at parent is in
    let up = transitive tree parent at c.args.affinity.0 (above_child tree parent at parent is (reflexive tree parent)) c.loop-parent.invariant.below in
    record {
      within = omega (arith, c.loop-parent.invariant.within, earlier, c.jump_below-at.ensures.within);
      below = transitive tree c.jump_below-at.result.0 parent c.args.affinity.0 c.jump_below-at.ensures.way up;
      above = c.jump_below-at.ensures.above;
      apart = c.jump_below-at.ensures.below;
    }
