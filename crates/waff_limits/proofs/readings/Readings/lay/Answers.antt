use Rattle.std.proofs.Common.{◌≡◌, ℕ, ◌+◌, ◌^◌, of_calls, rules, ◌∙◌, ap}
use Rattle.std.proofs.lemmas.List.Sorted.{IsNonDecreasingBy-from_sort_by_key}
use Rattle.std.proofs.lemmas.Result.{on_ok_weaker}
use Rattle.waff_limits.specs.Edges.{edges_of}
use Rattle.waff_limits.specs.Readings.{peak_at, readings_of, with_peak}
use Rattle.waff_limits.specs.declared.readings.Reading.{Reading}
use Rattle.waff_limits.proofs.EdgeLemmas.{same_used}
use Rattle.waff_limits.proofs.SkyLemmas.{peak_again}
use Rattle.waff_limits.proofs.Skyline.{read_laid}
use Rattle.waff_limits.proofs.readings.Readings.lay.Goals as goal

pub lay_all-requires : goal.lay_all-requires
lay_all-requires c = record {
  rising = rw c.as_slice.ensures.value
      (IsNonDecreasingBy-from_sort_by_key (λ (r : Reading). r.first) _ c.sort_unstable_by_key.ensures.sorted (λ a r f k. search (rules, of_calls)));
}

pub returns : goal.returns
returns c =
    let told = c.as_slice.result.now in
    let old = readings_of c.args.self.now in
    let same : (place : ℕ) → peak_at told place ≡ peak_at old place = λ place.
    ap (λ rs. peak_at rs place) c.as_slice.ensures.value
    ∙ peak_again c.push.new.self.items c.sort_unstable_by_key.new.self.items c.sort_unstable_by_key.ensures.permutation place
    ∙ ap (λ rs. peak_at rs place) c.in_ok-push.ensures.items in
    on_ok_weaker c.lay_all.result
    (λ laid used peak is are.
    let both = laid used is in
    same_used (edges_of c.lay_all.new.edges) (with_peak used (peak_at told) (2 ^ 64)) (λ cell. used cell + peak cell)
    (read_laid old told used peak (2 ^ 64) same are both.1) both.0)
    c.lay_all.ensures
