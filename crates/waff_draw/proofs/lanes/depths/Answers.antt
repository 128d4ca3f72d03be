use Rattle.std.proofs.Common.{◌≡◌, ◌<◌, ◌++◌, ◌∷◌, ℕ, [], Some, get_or, length, map, arith, sym, ◌∙◌, ap}
use Rattle.std.specs.List.{range_with_len}
use Rattle.std.proofs.lemmas.List.FromFn.{get_or-map-range_with_len, length-map-range_with_len, map-range_with_len_more}
use Rattle.waff_model.specs.Tree.{parent_of}
use Rattle.waff_draw.specs.Lanes.{path_of}
use Rattle.waff_draw.proofs.PathLemmas.{length_step, path_short, path_top}
use Rattle.waff_draw.proofs.lanes.depths.Goals as goal
use Rattle.waff_draw.proofs.lanes.depths.Goals.{in-Some, in-None}

pub index-requires : goal.index-requires
index-requires c =
    let b = c.loop-affinity.affinity in
    let up = c.len.ensures.tree.rooted.earlier b c.in-Some.parent.0 (sym c.in-Some.ensures) in
    let count = ap length c.loop-affinity.invariant ∙ length-map-range_with_len (λ a. length (path_of c.args.tree.now a)) 0 b in
    omega (arith, up, count, c.loop-affinity.depths.ok.0)

pub overflow_add-depth : goal.overflow_add-depth
overflow_add-depth c =
    let b = c.loop-affinity.affinity in
    let p = c.in-Some.parent.0 in
    let tree = c.args.tree.now in
    let rooted = c.len.ensures.tree.rooted in
    let up : p < b = rooted.earlier b p (sym c.in-Some.ensures) in
    let depth : ℕ → ℕ = λ a. length (path_of tree a) in
    let read : c.index.result.now ≡ depth p
    = c.index.ensures ∙ ap (λ ds. get_or ds p c.index.result.now) c.loop-affinity.invariant
    ∙ get_or-map-range_with_len depth 0 b p p c.index.result.now up (omega arith) in
    let low : p < length tree = omega (arith, up, c.loop-affinity-test.true, c.len-affinity-end.ensures.count) in
    omega (arith, read, path_short tree rooted p low, low, rooted.few)

pub loop-affinity-preserved : goal.loop-affinity-preserved
loop-affinity-preserved c =
    let tree = c.args.tree.now in
    let rooted = c.len.ensures.tree.rooted in
    let b = c.loop-affinity.affinity in
    let depth : ℕ → ℕ = λ a. length (path_of tree a) in
    let is : c.match-parent.depth ≡ depth b = elim c.match-parent.branch [
      | in-Some w ↦
          let p = w.in-Some.parent.0 in
          let parent : parent_of tree b ≡ Some p = sym w.in-Some.ensures in
          let up : p < b = rooted.earlier b p parent in
          let read : w.index.result.now ≡ depth p
          = w.index.ensures ∙ ap (λ ds. get_or ds p w.index.result.now) c.loop-affinity.invariant
          ∙ get_or-map-range_with_len depth 0 b p p w.index.result.now up (omega arith) in
          omega (arith, w.depth-is, read, length_step tree rooted b p parent)
      | in-None w ↦ w.depth-is ∙ sym (ap length (path_top tree rooted b b (sym w.in-None.ensures)))
    ] in
    c.in_ok-push.ensures.items ∙ ap (λ ds. ds ++ c.match-parent.depth ∷ []) c.loop-affinity.invariant
    ∙ ap (λ d. map depth (range_with_len 0 b) ++ d ∷ []) is ∙ sym (map-range_with_len_more depth 0 b b (omega arith))
