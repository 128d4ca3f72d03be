use Rattle.std.proofs.Common.{◌≡◌, ℕ, sum_by, refl, sym, ◌∙◌, ap, subst}
use Rattle.std.specs.List.Sorted.{IsNonDecreasing, IsPermutation}
use Rattle.std.proofs.lemmas.List.Sorted.{IsNonDecreasingBy-from_sort}
use Rattle.waff_plan.specs.Timetable.{starts_in, work_in}
use Rattle.waff_plan.specs.Work.{greatest}
use Rattle.waff_figures.specs.Figures.{latencies_among, latency_of, waits_among}
use Rattle.waff_figures.specs.Percentile.{IsPercentile}
use Rattle.waff_figures.proofs.GroupLemmas.{sum_map}
use Rattle.waff_figures.proofs.PercentileLemmas.{percentile_permuted}
use Rattle.waff_figures.proofs.parts.part_figures.Goals as goal

pub percentile-requires-clause-sorted : goal.percentile-requires-clause-sorted
percentile-requires-clause-sorted c =
    subst IsNonDecreasing (sym c.as_slice-3.ensures.value)
    (IsNonDecreasingBy-from_sort (λ x. x) c.sort_unstable.new.self.items c.sort_unstable.ensures.sorted)

pub percentile-requires-2-clause-sorted : goal.percentile-requires-2-clause-sorted
percentile-requires-2-clause-sorted c =
    subst IsNonDecreasing (sym c.as_slice-4.ensures.value)
    (IsNonDecreasingBy-from_sort (λ x. x) c.sort_unstable.new.self.items c.sort_unstable.ensures.sorted)

pub returns : goal.returns
returns c =
    let work = work_in c.args.plan.now in
    let start = starts_in c.args.plan.now in
    let messages = c.args.messages.now in
    let latencies = latencies_among work start messages in
    let sorted = c.sort_unstable.new.self.items in
    let same : IsPermutation latencies sorted = subst (λ xs. IsPermutation xs sorted) c.in_ok-sorted.ensures c.sort_unstable.ensures.permutation in
    let waits : c.waits-waits.result ≡ waits_among work start messages = c.waits-waits.ensures in
    let sum : c.sum-latencies.result ≡ sum_by (latency_of work start) messages
    = c.sum-latencies.ensures ∙ ap (sum_by (λ (n : ℕ). n)) (c.as_slice.ensures.value ∙ c.in_ok-sorted.ensures)
    ∙ sum_map (λ n. n) (latency_of work start) messages in
    let most : c.greatest-latency.result ≡ greatest latencies = c.greatest-latency.ensures ∙ ap greatest (c.as_slice-2.ensures.value ∙ c.in_ok-sorted.ensures) in
    record {
      p50 = percentile_permuted 50 latencies sorted c.percentile.result same
          (subst (λ xs. IsPercentile 50 xs c.percentile.result) c.as_slice-3.ensures.value c.percentile.ensures);
      p99 = percentile_permuted 99 latencies sorted c.percentile-2.result same
          (subst (λ xs. IsPercentile 99 xs c.percentile-2.result) c.as_slice-4.ensures.value c.percentile-2.ensures);
      are = rw (waits, sum, most) refl;
    }
