use Rattle.std.proofs.Common.{List, sym, ◌∙◌, subst}
use Rattle.std.proofs.lemmas.Bool.{eqb-true}
use Rattle.waff_model.specs.Cells.{cells_of}
use Rattle.waff_model.specs.Tree.{AtOrAbove, Node}
use Rattle.waff_assign.specs.Lowest.{IsUnlockedAmong}
use Rattle.waff_limits.proofs.LiftLemmas.{lifts_alone}
use Rattle.waff_limits.proofs.lifted.other_cell.Goals as goal

pub returns-then-eq-clause-lifting : goal.returns-then-eq-clause-lifting
returns-then-eq-clause-lifting c =
    let layout = c.args.layout.now in
    let same = sym (eqb-true c.owner-owner.result.0 c.args.affinity.0 (sym c.eq.ensures ∙ c.if-eq.true)) ∙ c.owner-owner.ensures.owner in
    lifts_alone layout c.space_count.ensures.layout (IsUnlockedAmong layout (cells_of c.args.ops.now)) c.args.affinity.0 c.requires.lowest c.args.first c.requires.first.has c.requires.first same

pub next_below-below-requires-clause-above : goal.next_below-below-requires-clause-above
next_below-below-requires-clause-above c =
    let layout = c.args.layout.now in
    subst (λ (t : List Node). AtOrAbove t c.args.affinity.0 c.owner-owner.result.0) (sym c.tree.ensures)
    (subst (λ o. AtOrAbove layout.tree c.args.affinity.0 o) (sym c.owner-owner.ensures.owner)
    (c.requires.lowest.covers c.args.first c.requires.first.has))
