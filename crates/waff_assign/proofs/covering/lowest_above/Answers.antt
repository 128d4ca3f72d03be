use Rattle.std.proofs.Common.{◌≡◌, ◌<◌, Some, arith, sym, ◌∙◌, subst}
use Rattle.std.proofs.lemmas.Bool.{false≢true}
use Rattle.waff_model.specs.Tree.{AtOrAbove, parent_of}
use Rattle.waff_model.proofs.TreeLemmas.{reflexive, above_child, transitive}
use Rattle.waff_assign.proofs.Climbs.{above_step, root_above, root_from_none}
use Rattle.waff_assign.proofs.covering.lowest_above.Goals as goal

pub loop-second-preserved : goal.loop-second-preserved
loop-second-preserved c =
    let tree = c.args.tree.now in
    let at = c.loop-second.at.0 in
    let parent = c.in-Some.parent.0 in
    let is : parent_of tree at ≡ Some parent = sym c.in-Some.ensures in
    let earlier : parent < at = c.at_or_above-in-loop-second.ensures.tree.rooted.earlier at parent is in
    let not_above = λ (h : AtOrAbove tree at c.args.second.0). false≢true (sym c.loop-second-test.true ∙ c.at_or_above-in-loop-second.ensures.answer.1 h) in
    record {
      within = omega (arith, c.loop-second.invariant.within);
      above = transitive tree parent at c.args.first.0 (above_child tree parent at parent is (reflexive tree parent)) c.loop-second.invariant.above;
      lowest = λ a first second. above_step tree a at c.args.second.0 parent not_above is (c.loop-second.invariant.lowest a first second) second;
    }

pub unreachable-requires : goal.unreachable-requires
unreachable-requires c =
    let tree = c.args.tree.now in
    let at = c.loop-second.at.0 in
    let top : at ≡ 0 = root_from_none tree c.at_or_above-in-loop-second.ensures.tree at c.loop-second.invariant.within (sym c.in-None.ensures) in
    let above = subst (λ x. AtOrAbove tree x c.args.second.0) (sym top) (root_above tree c.at_or_above-in-loop-second.ensures.tree c.args.second.0 c.requires.second) in
    false≢true (sym c.loop-second-test.true ∙ c.at_or_above-in-loop-second.ensures.answer.1 above)
