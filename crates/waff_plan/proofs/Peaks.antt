-- The greatest of one number more.
use Rattle.std.proofs.Common.{◌≡◌, ℕ, ◌+◌, ◌-◌, ◌<◌, ◌≤◌, max, get_or, length, map, arith, refl, sym, ◌∙◌, ap, subst}
use Rattle.std.specs.List.{range_with_len}
use Rattle.std.proofs.lemmas.List.FromFn.{get_or-map-range_with_len, length-map-range_with_len, map-range_with_len_more}
use Rattle.std.proofs.lemmas.List.Recursion.{max_bounds, max_push}
use Rattle.waff_plan.specs.Peak.{IsPeak}
use Rattle.waff_plan.specs.Work.{greatest}
use Rattle.waff_plan.specs.declared.peak.Peak.{Peak}

greatest_next : (f : ℕ → ℕ) (from n : ℕ) → greatest (map f (range_with_len from (n + 1))) ≡ max (greatest (map f (range_with_len from n))) (f (from + n))
greatest_next f from n =
    ap greatest (map-range_with_len_more f from n (from + n) (omega arith))
    ∙ max_push greatest (λ x. x) refl (λ _ _. refl) (map f (range_with_len from n)) (f (from + n))

module _ (f : ℕ → ℕ) (from count at ticks : ℕ) (end : from + count ≡ at) (is : f at ≡ ticks) (peak : Peak) (so_far : IsPeak f from count peak) where
  next : greatest (map f (range_with_len from (count + 1))) ≡ max peak.ticks ticks
  next =
      omega (arith, greatest_next f from count, ap f end ∙ is, so_far.ticks)

  -- the numbers so far are below it, or have no more than it
  below : (m : ℕ) → from ≤ m → m < at → f m ≤ peak.ticks
  below m from_m lt =
      let values = map f (range_with_len from count) in
      let short : m - from < count = omega (arith, end, lt) in
      let span : m - from < length values = subst (λ k. m - from < k) (sym (length-map-range_with_len f from count)) short in
      let value : get_or values (m - from) 0 ≡ f m = get_or-map-range_with_len f from count (m - from) m 0 short (omega arith) in
      omega (arith, max_bounds greatest (λ x. x) refl (λ _ _. refl) values (m - from) 0 span, value, so_far.ticks)

  pub peak_new : peak.ticks < ticks → IsPeak f from (count + 1) (record { at = at; ticks = ticks })
  peak_new more = record {
    ticks = omega (arith, next, more);
    none = λ zero. absurd (omega (arith, zero, more));
    at = λ some. (omega (arith, end), omega (arith, end), is);
    first = λ m from_m lt. omega (arith, below m from_m lt, more);
  }

  pub peak_old : ticks ≤ peak.ticks → IsPeak f from (count + 1) peak
  peak_old few = record {
    ticks = omega (arith, next, few);
    none = so_far.none;
    at = λ some. let old = so_far.at some in (old.0, omega (arith, old.1), old.2);
    first = so_far.first;
  }
