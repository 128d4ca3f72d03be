use Rattle.std.proofs.Common.{◌≡◌, ◌-◌, ◌<◌, None, length, arith, sym, ◌∙◌, ap}
use Rattle.std.specs.Prelude.{option_map}
use Rattle.std.proofs.lemmas.List.{get_or_read}
use Rattle.waff_model.specs.declared.tree.AffinityId.{AffinityId}
use Rattle.waff_assign.specs.Held.{Held, nothing}
use Rattle.waff_assign.specs.Order.{affinity_of}
use Rattle.waff_assign.proofs.Helds.{helds_count, helds_at}
use Rattle.waff_assign.proofs.assigned.Assigned.affinity.Goals as goal

pub index-requires : goal.index-requires
index-requires c =
    let inside = c.self.inside in
    let many : length c.args.self.now ≡ length inside.affinities.items = ap length (sym c.self.view_is) ∙ helds_count inside.affinities.items inside.uses.items inside.ends.items in
    omega arith

pub returns : goal.returns
returns c =
    let inside = c.self.inside in
    let many : length c.args.self.now ≡ length inside.affinities.items = ap length (sym c.self.view_is) ∙ helds_count inside.affinities.items inside.uses.items inside.ends.items in
    let short : c.args.n - 1 < length inside.affinities.items = omega arith in
    ap (option_map (λ (a : AffinityId). a.0)) (get_or_read inside.affinities.items (c.args.n - 1) c.index.result.now short c.index.ensures None)
    ∙ ap (λ (h : Held). h.affinity) (sym (helds_at inside.affinities.items inside.uses.items inside.ends.items (c.args.n - 1) nothing short))
    ∙ ap (λ assigned. affinity_of assigned c.args.n) c.self.view_is
