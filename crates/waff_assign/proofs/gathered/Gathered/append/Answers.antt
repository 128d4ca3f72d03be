use Rattle.std.proofs.Common.{◌≡◌, ◌+◌, ◌++◌, ◌∷◌, [], take, None, arith, sym, ◌∙◌, ap, ap₂}
use Rattle.std.specs.Prelude.{option_map}
use Rattle.std.proofs.lemmas.List.{append_assoc, get_or_read, take_all}
use Rattle.waff_model.specs.declared.tree.AffinityId.{AffinityId}
use Rattle.waff_assign.specs.Held.{Held}
use Rattle.waff_assign.specs.Order.{helds_of, uses_at}
use Rattle.waff_assign.proofs.Helds.{helds_count, helds_next}
use Rattle.waff_assign.proofs.gathered.Gathered.append.Goals as goal

pub loop-k-preserved : goal.loop-k-preserved
loop-k-preserved c =
    let inside = c.more.inside in
    let k = c.loop-k.k in
    let affinity = c.index.result.now in
    let run = c.uses_at.result.now in
    let new : Held = record { affinity = option_map (λ (a : AffinityId). a.0) affinity; uses = run } in
    let helds = helds_of inside.affinities.items inside.uses.items inside.ends.items in
    let next : take (k + 1) helds ≡ take k helds ++ new ∷ []
    = helds_next inside.affinities.items inside.uses.items inside.ends.items k affinity run (omega arith)
    (sym (get_or_read inside.affinities.items k affinity (omega arith) c.index.ensures None))
    (sym (c.uses_at.ensures ∙ ap₂ (λ uses ends. uses_at uses ends k) c.deref.ensures.value c.deref-in-loop-k.ensures.value)) in
    c.in_ok-push.ensures
    ∙ ap (λ xs. xs ++ new ∷ []) c.loop-k.invariant
    ∙ append_assoc c.args.self.now (take k helds) (new ∷ [])
    ∙ ap (λ xs. c.args.self.now ++ xs) (sym next)

pub returns : goal.returns
returns c =
    let inside = c.more.inside in
    let helds = helds_of inside.affinities.items inside.uses.items inside.ends.items in
    let all : take c.loop-k.k helds ≡ helds
    = take_all c.loop-k.k helds (omega (arith, helds_count inside.affinities.items inside.uses.items inside.ends.items)) in
    c.loop-k.invariant ∙ ap (λ xs. c.args.self.now ++ xs) (all ∙ c.more.view_is)
