use Rattle.std.proofs.Common.{◌≡◌, ◌<◌, length, get_or, set, drop, map, arith, ap, ◌∙◌}
use Rattle.std.proofs.Math.Seq.{take-append_seam}
use Rattle.waff_model.specs.Layout.{unlocked_space}
use Rattle.waff_model.specs.Spans.{map_in}
use Rattle.waff_model.proofs.SpanLemmas.{map_in-all, map_in-more}
use Rattle.waff_model.proofs.layout.unlock.Goals as goal

pub loop-space-preserved : goal.loop-space-preserved
loop-space-preserved c =
    let old = c.deref_mut-space-items.result.now in
    let items = c.loop-space.space-items in
    let p = c.loop-space.space-index in
    let one = c.space-item.result in
    let within : p < length old = c.loop-space-test.true in
    ap (λ s. set items p (unlocked_space s)) c.space.view_is
    ∙ ap (λ xs. set xs p (unlocked_space (get_or xs p one))) c.loop-space.invariant
    ∙ map_in-more unlocked_space old 0 p one (omega arith) within

pub returns : goal.returns
returns c =
    let before = c.args.spaces.now.items in
    let old = c.deref_mut-space-items.result.now in
    let items = c.loop-space.space-items in
    let same : old ≡ before = c.deref_mut-space-items.ensures.value in
    let end : c.loop-space.space-index ≡ length old = omega (arith, c.loop-space-test.false, c.loop-space.auto.space-index-end) in
    let long : c.args.spaces.now.len ≡ length items = omega (arith, c.deref_mut-space-items.ensures.len, c.loop-space.auto.space-items) in
    rw long
    (take-append_seam items (drop (length items) before)
    ∙ c.loop-space.invariant
    ∙ ap (map_in unlocked_space old 0) end
    ∙ map_in-all unlocked_space old
    ∙ ap (map unlocked_space) same)
