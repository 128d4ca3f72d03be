use Rattle.std.proofs.Common.{◌++◌, ◌∷◌, [], map, take, ap, sym, ◌∙◌}
use Rattle.std.proofs.lemmas.List.{map_more, take_all}
use Rattle.waff_model.specs.LayoutOf.{space_of}
use Rattle.waff_model.proofs.layout.spaces_of.Goals as goal

pub loop-space-preserved : goal.loop-space-preserved
loop-space-preserved c =
    let row = space_of c.args.format c.args.tree.now c.args.maps.now in
    let spaces = c.args.spaces.now in
    let k = c.loop-space.space-index in
    let space = c.space-item.result in
    c.in_ok-add_space.ensures
    ∙ ap (λ xs. xs ++ row space ∷ []) c.loop-space.invariant
    ∙ ap (λ s. map row (take k spaces) ++ row s ∷ []) c.space-item.is
    ∙ sym (map_more row spaces k space c.loop-space-test.true)

pub returns : goal.returns
returns c =
    c.loop-space.invariant
    ∙ ap (map (space_of c.args.format c.args.tree.now c.args.maps.now)) (take_all c.loop-space.space-index c.args.spaces.now c.loop-space-test.false)
