-- What messages need that await one another, beside what their clients need.
use Rattle.std.proofs.Common.{◌≡◌, ℕ, zero, suc, ◌+◌, ◌≤◌, max, List, [], ◌∷◌, ◌++◌, length, map, arith, refl, sym, ◌∙◌, ap, subst}
use Rattle.std.specs.List.{range_with_len}
use Rattle.waff_assign.specs.Instance.{Instance}
use Rattle.waff_plan.specs.LowerBound.{earliest_finish, finish_by}
use Rattle.waff_plan.specs.Peak.{IsPeak}
use Rattle.waff_plan.specs.Timetable.{timings_of}
use Rattle.waff_plan.specs.Timing.{await_of, client_work_of, timing_of, work_of}
use Rattle.waff_plan.specs.Work.{Await, greatest, issue_after}
use Rattle.waff_plan.specs.declared.peak.Peak.{Peak}
use Rattle.waff_plan.specs.declared.timing.Timing.{Timing}
use Rattle.waff_plan.proofs.Holding.{issue_again, issue_sooner}
use Rattle.waff_limits.specs.Laws.{AfterIsNotBelow}

-- a message is issued no sooner by more that it awaits
issue_more : (finish : ℕ → ℕ) (floor : ℕ) (xs ys : List Await) → issue_after finish floor xs ≤ issue_after finish floor (xs ++ ys)
issue_more finish floor [] [] = omega arith
issue_more finish floor [] (a ∷ ys) = let more = issue_more finish floor [] ys in omega (arith, more)
issue_more finish floor (a ∷ xs) ys = let more = issue_more finish floor xs ys in omega (arith, more)

-- a bound on each number is one on the greatest
greatest_below : (f g : ℕ → ℕ) (xs : List ℕ) → ((m : ℕ) → f m ≤ g m) → greatest (map f xs) ≤ greatest (map g xs)
greatest_below f g [] below = omega arith
greatest_below f g (x ∷ xs) below = let more = greatest_below f g xs below in omega (arith, more, below x)

greatest_same : (f g : ℕ → ℕ) (xs : List ℕ) → ((m : ℕ) → f m ≡ g m) → greatest (map f xs) ≡ greatest (map g xs)
greatest_same f g [] same = refl
greatest_same f g (x ∷ xs) same = let more = greatest_same f g xs same in omega (arith, more, same x)

-- the greatest of the same numbers
pub peak_again : (f g : ℕ → ℕ) → ((m : ℕ) → f m ≡ g m) → (from count : ℕ) (peak : Peak) → IsPeak f from count peak → IsPeak g from count peak
peak_again f g same from count peak is = record {
  ticks = is.ticks ∙ greatest_same f g (range_with_len from count) same;
  none = is.none;
  at = λ some. let here = is.at some in (here.0, here.1, sym (same peak.at) ∙ here.2);
  first = λ m low below. let less = is.first m low below in omega (arith, less, same m);
}

module _ (timings : List Timing) where
  -- by clients alone messages finish no later
  client_sooner : (n m : ℕ) → finish_by (client_work_of timings) n m ≤ finish_by (work_of timings) n m
  client_sooner zero m = omega arith
  client_sooner (suc n) m =
      let timing = timing_of timings m in
      let own = await_of timing.follows timing.think in
      let sooner = issue_sooner (finish_by (client_work_of timings) n) (finish_by (work_of timings) n) timing.floor own (λ i awaited. client_sooner n i) in
      let more = issue_more (finish_by (work_of timings) n) timing.floor own timing.after in
      omega (arith, sooner, more)

  -- and where nothing else is awaited they finish then
  module _ (none : (m : ℕ) → (work_of timings).awaits m ≡ (client_work_of timings).awaits m) where
    by_same : (n m : ℕ) → finish_by (client_work_of timings) n m ≡ finish_by (work_of timings) n m
    by_same zero m = refl
    by_same (suc n) m =
        let timing = timing_of timings m in
        ap (λ t. t + timing.cost)
        (issue_again (finish_by (client_work_of timings) n) (finish_by (work_of timings) n) timing.floor (await_of timing.follows timing.think) (λ i awaited. by_same n i)
        ∙ ap (issue_after (finish_by (work_of timings) n) timing.floor) (sym (none m)))

    pub finish_same : (m : ℕ) → earliest_finish (client_work_of timings) m ≡ earliest_finish (work_of timings) m
    finish_same m = by_same m m

pub after_is_not_below : (instance : Instance) → AfterIsNotBelow instance
after_is_not_below instance spaces start limits are =
    let timings = timings_of instance.trace.messages in
    let below = greatest_below (earliest_finish (client_work_of timings)) (earliest_finish (work_of timings)) (range_with_len 1 (length timings))
    (λ m. client_sooner timings m m) in
    omega (arith, are.client.ticks, are.after.ticks, below)
