use Rattle.std.proofs.Common.{◌≡◌, ◌++◌, ◌∷◌, [], ◌∙◌, ap, length, arith}
use Rattle.std.specs.Prelude.{option_map}
use Rattle.waff_model.specs.declared.tree.AffinityId.{AffinityId}
use Rattle.waff_assign.specs.Held.{Held}
use Rattle.waff_assign.proofs.Helds.{helds_push}
use Rattle.waff_assign.proofs.gathered.Gathered.push.Goals as goal

pub returns : goal.returns
returns c =
    let inside = c.self.inside in
    let affinity = c.args.affinity in
    let end = c.len.result in
    let new : Held = record { affinity = option_map (λ (a : AffinityId). a.0) affinity; uses = c.args.uses.now } in
    let affinities : c.push_reserved.new.self.items ≡ inside.affinities.items ++ affinity ∷ []
    = c.push_reserved.ensures.items ∙ ap (λ xs. xs ++ affinity ∷ []) c.reserve.ensures.items in
    let uses : c.extend_from_slice.new.self.items ≡ inside.uses.items ++ c.args.uses.now = c.in_ok-extend_from_slice.ensures.items in
    let ends : c.push_reserved-2.new.self.items ≡ inside.ends.items ++ end ∷ []
    = c.push_reserved-2.ensures.items ∙ ap (λ xs. xs ++ end ∷ []) c.reserve-2.ensures.items in
    let is : end ≡ length (inside.uses.items ++ c.args.uses.now) = omega (arith, ap length uses, c.len.ensures) in
    rw (affinities, uses, ends)
    (helds_push inside.affinities.items inside.uses.items c.args.uses.now inside.ends.items affinity end c.self.invariant.1 is c.self.invariant.0
    ∙ ap (λ xs. xs ++ new ∷ []) c.self.view_is)
