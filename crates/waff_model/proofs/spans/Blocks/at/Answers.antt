use Rattle.std.proofs.Common.{◌≡◌, ◌/◌, ◌<◌, length, arith, sym, ◌∙◌, ap, ap₂}
use Rattle.std.proofs.lemmas.List.{get_or_read}
use Rattle.waff_model.specs.Later.{value_at}
use Rattle.waff_model.proofs.BlockLemmas.{length-spread, spread_at}
use Rattle.waff_model.proofs.spans.Blocks.at.Goals as goal

pub index-requires : goal.index-requires
index-requires g c =
    let long = length-spread g.T.Later.join c.self.inside.blocks.items 0 c.self.inside.places.items in
    let same = ap length c.self.view_is in
    omega (arith, long, same, c.requires)

pub index-requires-2 : goal.index-requires-2
index-requires-2 g c =
    let long = length-spread g.T.Later.join c.self.inside.blocks.items 0 c.self.inside.places.items in
    let same = ap length c.self.view_is in
    omega (arith, long, same, c.requires, c.self.invariant)

pub returns : goal.returns
returns g c =
    let join = g.T.Later.join in
    let places = c.self.inside.places.items in
    let blocks = c.self.inside.blocks.items in
    let p = c.args.place in
    let long = length-spread join blocks 0 places in
    let same = ap length c.self.view_is in
    let within : p < length places = omega (arith, long, same, c.requires) in
    let block : p / 64 < length blocks = omega (arith, within, c.self.invariant) in
    let one : c.index.result.now ≡ value_at join places p = get_or_read places p c.index.result.now within c.index.ensures join.none in
    let two : c.index-2.result.now ≡ value_at join blocks (p / 64)
    = get_or_read blocks (p / 64) c.index-2.result.now block c.index-2.ensures join.none in
    c.later.ensures ∙ ap₂ join.later one two ∙ sym (spread_at join blocks places p within) ∙ ap (λ xs. value_at join xs p) c.self.view_is
