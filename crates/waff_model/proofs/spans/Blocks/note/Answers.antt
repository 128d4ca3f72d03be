use Rattle.std.proofs.Common.{◌≡◌, ◌+◌, ◌*◌, ◌/◌, ◌%◌, ◌<◌, ◌≤◌, length, min, arith, sym, ◌∙◌, ap, ap₂, subst, subst₂}
use Rattle.std.specs.Vec.{with_items}
use Rattle.std.proofs.lemmas.List.{with_items_is}
use Rattle.waff_model.specs.Spans.{map_in}
use Rattle.waff_model.specs.Blocks.{spread_from, AreCut}
use Rattle.waff_model.proofs.SpanLemmas.{map_in-join}
use Rattle.waff_model.proofs.BlockLemmas.{length-spread, noted_places, noted_blocks}
use Rattle.waff_model.proofs.spans.Blocks.note.Goals as goal

pub note_each-requires-clause-within : goal.note_each-requires-clause-within
note_each-requires-clause-within g c =
    let long = length-spread g.T.Later.join c.self.inside.blocks.items 0 c.self.inside.places.items in
    let same = ap length c.self.view_is in
    let value = ap length c.deref_mut.ensures.value in
    omega (arith, long, same, value, c.requires.within)

pub note_each-requires-2-clause-within : goal.note_each-requires-2-clause-within
note_each-requires-2-clause-within g c =
    let long = length-spread g.T.Later.join c.self.inside.blocks.items 0 c.self.inside.places.items in
    let same = ap length c.self.view_is in
    let value = ap length c.deref_mut-2.ensures.value in
    omega (arith, long, same, value, c.requires.within, c.if-last-first.false)

pub note_each-requires-3-clause-within : goal.note_each-requires-3-clause-within
note_each-requires-3-clause-within g c =
    let long = length-spread g.T.Later.join c.self.inside.blocks.items 0 c.self.inside.places.items in
    let same = ap length c.self.view_is in
    let value = ap length c.deref_mut-3.ensures.value in
    omega (arith, long, same, value, c.requires.within, c.self.invariant)

pub note_each-requires-4-clause-within : goal.note_each-requires-4-clause-within
note_each-requires-4-clause-within g c =
    let long = length-spread g.T.Later.join c.self.inside.blocks.items 0 c.self.inside.places.items in
    let same = ap length c.self.view_is in
    let first = ap length c.deref_mut-2.ensures.value in
    let one = c.note_each-2.ensures.count ∙ first in
    let kept = ap length (with_items_is c.self.inside.places c.note_each-2.new.values (one ∙ sym c.self.inside.places.ok.0)) in
    let value = ap length c.deref_mut-4.ensures.value in
    omega (arith, long, same, one, kept, value, c.requires.within)

pub returns-then-last-first : goal.returns-then-last-first
returns-then-last-first g c =
    let join = g.T.Later.join in
    let x = c.args.value in
    let from = c.args.from in
    let to = c.args.to in
    let places = c.self.inside.places in
    let blocks = c.self.inside.blocks.items in
    let one = c.note_each.new.values in
    let kept = with_items_is places one (c.note_each.ensures.count ∙ ap length c.deref_mut.ensures.value ∙ sym places.ok.0) in
    ap (spread_from join blocks 0) (kept ∙ c.note_each.ensures.noted ∙ ap (λ xs. map_in (λ v. join.later v x) xs from to) c.deref_mut.ensures.value)
    ∙ noted_places join g.met.T.Later.laws x blocks 0 places.items from to ∙ ap (λ xs. map_in (λ v. join.later v x) xs from to) c.self.view_is

pub returns : goal.returns
returns g c =
    let join = g.T.Later.join in
    let laws = g.met.T.Later.laws in
    let from = c.args.from in
    let to = c.args.to in
    let x = c.args.value in
    let first = c.div_ceil-first.result in
    let last = to / 64 in
    let places = c.self.inside.places in
    let blocks = c.self.inside.blocks in
    let one = c.note_each-2.new.values in
    let whole = c.note_each-3.new.values in
    let two = c.note_each-4.new.values in
    let is : first ≡ from / 64 + min 1 (from % 64) = c.div_ceil-first.ensures in
    let some : first < last = omega (arith, c.if-last-first.false) in
    let long = length-spread join blocks.items 0 places.items in
    let short : to ≤ length places.items = omega (arith, ap length c.self.view_is, long, c.requires.within) in
    let begun : one ≡ map_in (λ v. join.later v x) places.items from (first * 64)
    = c.note_each-2.ensures.noted ∙ ap (λ xs. map_in (λ v. join.later v x) xs from (first * 64)) c.deref_mut-2.ensures.value in
    let passed : whole ≡ map_in (λ v. join.later v x) blocks.items first last
    = c.note_each-3.ensures.noted ∙ ap (λ xs. map_in (λ v. join.later v x) xs first last) c.deref_mut-3.ensures.value in
    let one_long = c.note_each-2.ensures.count ∙ ap length c.deref_mut-2.ensures.value in
    let whole_long = c.note_each-3.ensures.count ∙ ap length c.deref_mut-3.ensures.value in
    let kept = with_items_is places one (one_long ∙ sym places.ok.0) in
    let ended : two ≡ map_in (λ v. join.later v x) one (last * 64) to
    = c.note_each-4.ensures.noted ∙ ap (λ xs. map_in (λ v. join.later v x) xs (last * 64) to) (c.deref_mut-4.ensures.value ∙ kept) in
    let two_long = c.note_each-4.ensures.count ∙ ap length (c.deref_mut-4.ensures.value ∙ kept) in
    let new_places = with_items_is (with_items places one) two (two_long ∙ one_long ∙ sym places.ok.0) in
    let new_blocks = with_items_is blocks whole (whole_long ∙ sym blocks.ok.0) in
    let all = spread_from join blocks.items 0 places.items in
    ap₂ (λ bs ps. spread_from join bs 0 ps) (new_blocks ∙ passed) (new_places ∙ ended)
    ∙ noted_places join laws x (map_in (λ v. join.later v x) blocks.items first last) 0 one (last * 64) to
    ∙ ap (λ xs. map_in (λ v. join.later v x) xs (last * 64) to)
    (noted_blocks join laws x blocks.items one first last (omega (arith, short, c.self.invariant)) (omega (arith, short, one_long))
    ∙ ap (λ xs. map_in (λ v. join.later v x) xs (first * 64) (last * 64))
    (ap (spread_from join blocks.items 0) begun ∙ noted_places join laws x blocks.items 0 places.items from (first * 64))
    ∙ map_in-join (λ v. join.later v x) all from (first * 64) (last * 64) (omega (arith, is)) (omega (arith, some)))
    ∙ map_in-join (λ v. join.later v x) all from (last * 64) to (omega (arith, is, some)) (omega arith)
    ∙ ap (λ xs. map_in (λ v. join.later v x) xs from to) c.self.view_is

pub invariant_of-self : goal.invariant_of-self
invariant_of-self g c =
    let places = c.self.inside.places in
    let count = c.note_each.ensures.count ∙ ap length c.deref_mut.ensures.value in
    let kept = with_items_is places c.note_each.new.values (count ∙ sym places.ok.0) in
    subst (λ xs. AreCut xs c.self.inside.blocks.items) (sym kept) (omega (arith, count, c.self.invariant))

pub invariant_of-self-2 : goal.invariant_of-self-2
invariant_of-self-2 g c =
    let places = c.self.inside.places in
    let blocks = c.self.inside.blocks in
    let one = c.note_each-2.new.values in
    let whole = c.note_each-3.new.values in
    let two = c.note_each-4.new.values in
    let begun = c.note_each-2.ensures.count ∙ ap length c.deref_mut-2.ensures.value in
    let passed = c.note_each-3.ensures.count ∙ ap length c.deref_mut-3.ensures.value in
    let kept = with_items_is places one (begun ∙ sym places.ok.0) in
    let ended = c.note_each-4.ensures.count ∙ ap length (c.deref_mut-4.ensures.value ∙ kept) in
    let new_places = with_items_is (with_items places one) two (ended ∙ begun ∙ sym places.ok.0) in
    let new_blocks = with_items_is blocks whole (passed ∙ sym blocks.ok.0) in
    subst₂ AreCut (sym new_places) (sym new_blocks) (omega (arith, begun, passed, ended, c.self.invariant))
