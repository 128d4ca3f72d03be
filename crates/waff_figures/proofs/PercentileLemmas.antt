-- Percentiles of numbers in order, and of the same numbers in another order.
use Rattle.std.proofs.Common.{◌≡◌, ℕ, zero, suc, ◌+◌, ◌-◌, ◌*◌, ◌/◌, ◌%◌, ◌<◌, ◌≤◌, cond, nat_le, List, [], ◌∷◌, get_or, length, min, inl, inr, arith, sym, subst}
use Rattle.std.proofs.Math.Nat.{mul_comm, mul-le-mul_left}
use Rattle.std.specs.List.Sorted.{IsNonDecreasing, IsPermutation}
use Rattle.std.proofs.lemmas.Bool.{cases_lt}
use Rattle.std.proofs.lemmas.Bool.Decides.{nat_tests}
use Rattle.std.proofs.lemmas.Grind.{div_ceil_times}
use Rattle.std.proofs.lemmas.List.Sorted.{length_permutation, sum_by-IsPermutation}
use Rattle.std.proofs.lemmas.List.Sums.{sum_by-cons}
use Rattle.waff_model.specs.Unique.{AtMostOne}
use Rattle.waff_figures.specs.Percentile.{Covers, IsPercentile, count_within}

-- the least number is one
pub percentile_is_one : (p : ℕ) (numbers : List ℕ) → AtMostOne (IsPercentile p numbers)
percentile_is_one p numbers one other h k = omega (arith, h.least other k.covers, k.least one h.covers)

-- one more number, and whether it is counted
count_step : (x bound : ℕ) (xs : List ℕ) → count_within (x ∷ xs) bound ≡ cond {A = ℕ} (nat_le x bound) 1 0 + count_within xs bound
count_step x bound xs = sum_by-cons (λ n. cond (nat_le n bound) 1 0) x xs

-- where the first i numbers are at most the bound, at least i are counted
counts_first : (xs : List ℕ) (i bound : ℕ) → i ≤ length xs → ((k : ℕ) → k < i → get_or xs k 0 ≤ bound) → i ≤ count_within xs bound
counts_first xs zero bound within low = omega arith
counts_first [] (suc i) bound within low = absurd (omega arith)
counts_first (x ∷ xs) (suc i) bound within low =
    let first : x ≤ bound = low 0 (omega arith) in
    let one : cond {A = ℕ} (nat_le x bound) 1 0 ≡ 1 = grind (arith, nat_tests, first) in
    let rest : i ≤ count_within xs bound = counts_first xs i bound (omega arith) (λ k lt. low (suc k) (omega arith)) in
    omega (arith, one, rest, count_step x bound xs)

-- where those from the i-th on are above it, at most i are counted
counts_no_later : (xs : List ℕ) (i bound : ℕ) → ((k : ℕ) → i ≤ k → k < length xs → bound < get_or xs k 0) → count_within xs bound ≤ i
counts_no_later [] i bound high = omega arith
counts_no_later (x ∷ xs) zero bound high =
    let first : bound < x = high 0 (omega arith) (omega arith) in
    let none : cond {A = ℕ} (nat_le x bound) 1 0 ≡ 0 = grind (arith, nat_tests, first) in
    let rest : count_within xs bound ≤ 0 = counts_no_later xs 0 bound (λ k from to. high (suc k) (omega arith) (omega arith)) in
    omega (arith, none, rest, count_step x bound xs)
counts_no_later (x ∷ xs) (suc i) bound high =
    let one : cond {A = ℕ} (nat_le x bound) 1 0 ≤ 1 = grind (arith, nat_tests) in
    let rest : count_within xs bound ≤ i = counts_no_later xs i bound (λ k from to. high (suc k) (omega arith) (omega arith)) in
    omega (arith, one, rest, count_step x bound xs)

-- the number in whose place as many stand as have to be covered
pub percentile_at : (p : ℕ) (numbers : List ℕ) (covered : ℕ) → IsNonDecreasing numbers → 1 ≤ covered → covered ≤ length numbers
    → p * length numbers ≤ 100 * covered → 100 * (covered - 1) < p * length numbers → IsPercentile p numbers (get_or numbers (covered - 1) 0)
percentile_at p numbers covered sorted some within enough few =
    let at = get_or numbers (covered - 1) 0 in
    let counted : covered ≤ count_within numbers at
    = counts_first numbers covered at within (λ k lt. sorted k (covered - 1) 0 (omega arith) (omega arith)) in
    record {
      covers = omega (arith, counted, enough);
      least = λ other covers. elim (cases_lt other at) [
        | inl below ↦
            let late : count_within numbers other ≤ covered - 1
            = counts_no_later numbers (covered - 1) other (λ k from to.
            let up : at ≤ get_or numbers k 0 = sorted (covered - 1) k 0 from to in omega (arith, up, below)) in
            absurd (omega (arith, late, covers, few))
        | inr above ↦ omega (arith, above)
      ];
    }

-- so many numbers are covered, and no fewer do
pub covered_is : (p n covered : ℕ) → 1 ≤ p → p ≤ 100 → 1 ≤ n → covered ≡ n * p / 100 + min 1 (n * p % 100)
    → (1 ≤ covered) × (covered ≤ n) × (p * n ≤ 100 * covered) × (100 * (covered - 1) < p * n)
covered_is p n covered from to some is =
    let bounds = div_ceil_times (n * p) 100 (omega arith) in
    let up : n * p ≤ covered * 100 = subst (λ c. n * p ≤ c * 100) (sym is) bounds.0 in
    let down : covered * 100 < n * p + 100 = subst (λ c. c * 100 < n * p + 100) (sym is) bounds.1 in
    let turned : n * p ≡ p * n = mul_comm n p in
    let all : n * p ≤ n * 100 = mul-le-mul_left n to in
    let one : n * 1 ≤ n * p = mul-le-mul_left n from in
    (omega (arith, up, one, some), omega (arith, down, all), omega (arith, up, turned), omega (arith, down, turned, up, one, some))

-- numbers in another order have the same percentiles
count_permuted : (xs ys : List ℕ) (bound : ℕ) → IsPermutation xs ys → count_within ys bound ≡ count_within xs bound
count_permuted xs ys bound same = sum_by-IsPermutation (λ n. cond (nat_le n bound) 1 0) xs ys same

pub percentile_permuted : (p : ℕ) (xs ys : List ℕ) (n : ℕ) → IsPermutation xs ys → IsPercentile p ys n → IsPercentile p xs n
percentile_permuted p xs ys n same h =
    let long : length ys ≡ length xs = length_permutation xs ys same in
    let here : (bound : ℕ) → Covers p ys bound → Covers p xs bound
    = λ bound covers. subst (λ l. p * l ≤ 100 * count_within xs bound) long (subst (λ c. p * length ys ≤ 100 * c) (count_permuted xs ys bound same) covers) in
    let there : (bound : ℕ) → Covers p xs bound → Covers p ys bound
    = λ bound covers. subst (λ l. p * l ≤ 100 * count_within ys bound) (sym long) (subst (λ c. p * length xs ≤ 100 * c) (sym (count_permuted xs ys bound same)) covers) in
    record {
      covers = here n h.covers;
      least = λ other covers. h.least other (there other covers);
    }
