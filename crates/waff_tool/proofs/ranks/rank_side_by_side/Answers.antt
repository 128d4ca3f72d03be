use Rattle.std.proofs.Common.{◌≡◌, ◌++◌, drop, length, take, slice_get, Some, None, IfSome, arith, ap, subst, ◌∙◌}
use Rattle.std.proofs.Math.Seq.{take-append_seam}
use Rattle.std.proofs.lemmas.Result.{IfOk-weaker}
use Rattle.waff_model.specs.Layout.{Hierarchy}
use Rattle.waff_tool.specs.Ranks.{IsRankedOver}
use Rattle.waff_tool.specs.declared.ranks.Ranked.{Ranked}
use Rattle.waff_tool.proofs.RankLemmas.{zip_of_each}
use Rattle.waff_tool.proofs.ranks.rank_side_by_side.Goals as goal

pub returns : goal.returns
returns g c =
    let layouts = c.args.layouts.now in
    let over = IsRankedOver c.args.rule c.args.trace.now c.args.k in
    let made = c.for_each_mut.new.s in
    let kept = c.for_each_mut.auto.s in
    let count : length made ≡ length layouts
    = omega (arith, kept, ap length c.as_mut_slice.ensures.value, c.as_mut_slice.ensures.len, c.in_ok-made.ensures.len, c.len.ensures.count) in
    let len : c.in_ok-made.made.len ≡ length made = omega (arith, count, c.in_ok-made.ensures.len, c.len.ensures.count) in
    let back : c.as_slice.result.now ≡ made
    = c.as_slice.ensures.value ∙ ap (λ n. take n (made ++ drop (length made) c.in_ok-made.made.items)) len ∙ take-append_seam made _ in
    IfOk-weaker c.all_made.result _ _
    (λ ranks same.
    zip_of_each over layouts made ranks.items (same ∙ back) count
    (λ i inside.
    let at = (c.for_each_mut.ensures i None (omega (arith, kept, inside))).1 in
    subst (λ place. IfSome place (λ (ranked : Ranked). (layout : Hierarchy) → slice_get layouts i ≡ Some layout → over layout ranked)) at.left at.call))
    c.all_made.ensures
