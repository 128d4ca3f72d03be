use Rattle.std.proofs.Common.{◌≡◌, ◌+◌, ◌-◌, ◌*◌, ◌/◌, ◌%◌, ◌<◌, ◌≤◌, length, min, arith, sym, ◌∙◌, ap, ap₂}
use Rattle.waff_model.specs.Later.{latest_in}
use Rattle.waff_model.proofs.BlockLemmas.{latest_join, latest_blocks}
use Rattle.waff_model.proofs.spans.Standing.latest.Goals as goal

pub returns : goal.returns
returns g c =
    let join = g.T.Later.join in
    let laws = g.met.T.Later.laws in
    let from = c.args.from in
    let to = c.args.to in
    let first = c.div_ceil-first.result in
    let last = to / 64 in
    let places = c.self.inside.places.items in
    let blocks = c.self.inside.blocks.items in
    let same = ap length c.self.view_is in
    let is : first ≡ from / 64 + min 1 (from % 64) = c.div_ceil-first.ensures in
    let some : first < last = omega (arith, c.if-last-first.false) in
    let short : last ≤ length blocks = omega (arith, same, c.requires.within, c.self.invariant.room) in
    let one : c.latest-before.result ≡ latest_in join places from (first * 64)
    = c.latest-before.ensures ∙ ap (λ xs. latest_in join xs from (first * 64)) c.deref-2.ensures.value in
    let two : c.latest-whole.result ≡ latest_in join places (first * 64) (last * 64)
    = c.latest-whole.ensures ∙ ap (λ xs. latest_in join xs first last) c.deref-3.ensures.value
    ∙ latest_blocks join laws places blocks (last - first) first last (omega (arith, some)) short c.self.invariant in
    let three : c.latest-behind.result ≡ latest_in join places (last * 64) to
    = c.latest-behind.ensures ∙ ap (λ xs. latest_in join xs (last * 64) to) c.deref-4.ensures.value in
    let most : c.later.result ≡ latest_in join places from (last * 64)
    = c.later.ensures ∙ ap₂ join.later one two
    ∙ sym (latest_join join laws places from (first * 64) (last * 64) (omega (arith, is)) (omega (arith, some))) in
    c.later-2.ensures ∙ ap₂ join.later most three ∙ sym (latest_join join laws places from (last * 64) to (omega (arith, is, some)) (omega arith))
    ∙ ap (λ xs. latest_in join xs from to) c.self.view_is

pub returns-then-last-first : goal.returns-then-last-first
returns-then-last-first g c =
    c.latest.ensures ∙ ap (λ xs. latest_in g.T.Later.join xs c.args.from c.args.to) (c.deref.ensures.value ∙ c.self.view_is)
