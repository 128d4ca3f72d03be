use Rattle.std.proofs.Common.{◌≡◌, ◌/◌, ◌<◌, length, set, arith, sym, ◌∙◌, ap, subst₂}
use Rattle.std.proofs.lemmas.List.{get_or_read}
use Rattle.waff_model.specs.Later.{value_at}
use Rattle.waff_model.specs.Blocks.{AreSummed}
use Rattle.waff_model.proofs.BlockLemmas.{summed_put}
use Rattle.waff_model.proofs.spans.Standing.put.Goals as goal

pub invariant_of-self : goal.invariant_of-self
invariant_of-self g c =
    let join = g.T.Later.join in
    let places = c.self.inside.places.items in
    let blocks = c.self.inside.blocks.items in
    let p = c.args.place in
    let same = ap length c.self.view_is in
    let within : p < length places = omega (arith, same, c.requires) in
    let block : p / 64 < length blocks = omega (arith, within, c.self.invariant.room) in
    let one : c.later.result ≡ join.later (value_at join places p) c.args.value
    = c.later.ensures ∙ ap (λ x. join.later x c.args.value) (get_or_read places p c.index.result.now within c.index.ensures join.none) in
    let two : c.later-2.result ≡ join.later (value_at join blocks (p / 64)) c.args.value
    = c.later-2.ensures ∙ ap (λ x. join.later x c.args.value) (get_or_read blocks (p / 64) c.index-2.result.now block c.index-2.ensures join.none) in
    subst₂ (λ x y. AreSummed join (set places p x) (set blocks (p / 64) y)) (sym one) (sym two)
    (summed_put join g.met.T.Later.laws places blocks p c.args.value within c.self.invariant)

pub index-requires : goal.index-requires
index-requires g c = omega (arith, ap length c.self.view_is, c.requires, c.self.inside.places.ok.0)

pub index-requires-2 : goal.index-requires-2
index-requires-2 g c = omega (arith, ap length c.self.view_is, c.requires, c.self.invariant.room, c.self.inside.blocks.ok.0)

pub returns : goal.returns
returns g c =
    let join = g.T.Later.join in
    let places = c.self.inside.places.items in
    let p = c.args.place in
    let x = c.args.value in
    let within : p < length places = omega (arith, ap length c.self.view_is, c.requires) in
    let later : c.later.result ≡ join.later (value_at join places p) x
    = c.later.ensures ∙ ap (λ y. join.later y x) (get_or_read places p c.index.result.now within c.index.ensures join.none) in
    ap (set places p) later ∙ ap (λ xs. set xs p (join.later (value_at join xs p) x)) c.self.view_is
