use Rattle.std.proofs.Common.{◌≡◌, ◌<◌, ◌≤◌, ◌-◌, get_or, length, map, arith, sym, ◌∙◌, ap, ap₂}
use Rattle.std.specs.Map.{values_of}
use Rattle.std.proofs.lemmas.List.FromFn.{get_or-map-range_with_len, length-map-range_with_len}
use Rattle.std.proofs.lemmas.Simd.{map-map}
use Rattle.waff_draw.specs.Lanes.{lane_in, path_of, used_from}
use Rattle.waff_draw.proofs.OrderLemmas.{IsOther, used_all}
use Rattle.waff_draw.proofs.PlaceLemmas.{entry, put_read, used_put, used_same}
use Rattle.waff_draw.proofs.lanes.by_place.Goals as goal

pub index-depth-requires : goal.index-depth-requires
index-depth-requires c =
    omega (
      arith,
      ap length c.in_ok-depths.ensures,
      length-map-range_with_len (λ a. length (path_of c.args.tree.now a)) 0 (length c.args.tree.now),
      c.in_ok-depths.depths.ok.0,
      c.loop-affinity-test.true,
      c.loop-affinity.auto.affinity,
      c.len-affinity.ensures.count,
    )

pub loop-affinity-preserved-in_ok-insert : goal.loop-affinity-preserved-in_ok-insert
loop-affinity-preserved-in_ok-insert c assigned each =
    let tree = c.args.tree.now in
    let spans = c.spans-spans.result.now in
    let k = c.loop-affinity.affinity in
    let b = k - 1 in
    let low : k ≤ length tree = omega (arith, c.loop-affinity.auto.affinity, c.len-affinity.ensures.count) in
    let within : b < length tree = omega (arith, low, c.loop-affinity-test.true) in
    let used = used_from tree assigned k (length tree - k) in
    let depth : c.index-depth.result.now ≡ length (path_of tree b)
    = c.index-depth.ensures ∙ ap (λ ds. get_or ds b c.index-depth.result.now) c.in_ok-depths.ensures
    ∙ get_or-map-range_with_len (λ a. length (path_of tree a)) 0 (length tree) b b c.index-depth.result.now within (omega arith) in
    let others = used_all tree (IsOther tree b) assigned k (length tree - k)
    (λ x from to. (omega (arith, to, low), λ e. omega (arith, e, from, c.loop-affinity-test.true))) in
    put_read tree spans c.len-affinity.ensures.tree.rooted c.spans-spans.ensures b c.index-depth.result.now _ used
    c.loop-affinity.lanes.entries c.insert.new.self.entries within others depth (c.loop-affinity.invariant assigned each) c.in_ok-insert.ensures.entries
    ∙ ap (map (entry tree spans)) (sym (used_put tree assigned k (length tree) c.loop-affinity-test.true low (sym (each b within) ∙ c.if-used-affinity.true)))

pub loop-affinity-preserved : goal.loop-affinity-preserved
loop-affinity-preserved c assigned each =
    let tree = c.args.tree.now in
    let k = c.loop-affinity.affinity in
    let low : k ≤ length tree = omega (arith, c.loop-affinity.auto.affinity, c.len-affinity.ensures.count) in
    c.loop-affinity.invariant assigned each
    ∙ ap (map (entry tree c.spans-spans.result.now))
    (sym (used_same tree assigned k (length tree) c.loop-affinity-test.true low (sym (each (k - 1) (omega (arith, low, c.loop-affinity-test.true))) ∙ c.if-used-affinity.false)))

pub returns : goal.returns
returns c assigned each =
    let tree = c.args.tree.now in
    let spans = c.spans-spans.result.now in
    let end : c.loop-affinity.affinity ≡ 0 = omega (arith, c.loop-affinity-test.false) in
    ap values_of (c.loop-affinity.invariant assigned each)
    ∙ map-map (λ e. e.1) (entry tree spans) (used_from tree assigned c.loop-affinity.affinity (length tree - c.loop-affinity.affinity))
    ∙ ap₂ (λ k n. map (lane_in tree) (used_from tree assigned k n)) end (omega (arith, end))
