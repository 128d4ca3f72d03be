use Rattle.std.proofs.Common.{subst}
use Rattle.waff_model.specs.Tree.{IsTree}
use Rattle.waff_model.proofs.LayoutLemmas.{is_layout}
use Rattle.waff_model.proofs.layout.Layout.with_format.Goals as goal

pub invariant_of-result : goal.invariant_of-result
invariant_of-result c =
    let is_tree = subst IsTree c.tree.view_is c.tree.invariant.0 in
    rw (c.in-Ok.ensures.spaces, c.in-Ok-shared_tree.ensures) (is_layout c.args.format c.args.kind c.args.tree c.args.spaces.now c.args.maps.now is_tree c.in-Ok.ensures.accepted)
