-- Messages that run at one tick on different workers are no more than the workers.
use Rattle.std.proofs.Common.{◌≡◌, ◌≢◌, ℕ, zero, suc, ◌+◌, ◌<◌, ◌≤◌, Bool, true, false, cond, ◌&&◌, eqb, nat_le, count_by, arith, refl, ap, sym, inl, inr, ◌∙◌}
use Rattle.std.specs.List.{range_with_len}
use Rattle.std.proofs.lemmas.Bool.{cases_Bool, cases_eq, cond-true, cond-false, and_parts, and_from, eqb-true, eq-eqb, le-leb, and_left}
use Rattle.std.proofs.lemmas.Bool.Decides.{nat_tests}
use Rattle.std.proofs.lemmas.List.Sums.{sum_by-cons}

-- where two tests agree on a range, as many pass
pub count_same : (p q : ℕ → Bool) (a n : ℕ) → ((m : ℕ) → a ≤ m → m < a + n → p m ≡ q m)
    → count_by p (range_with_len a n) ≡ count_by q (range_with_len a n)
count_same p q a zero h = refl
count_same p q a (suc n) h =
    let first : cond {A = ℕ} (p a) 1 0 ≡ cond (q a) 1 0 = ap (λ b. cond b 1 0) (h a (omega arith) (omega arith)) in
    let rest : count_by p (range_with_len (a + 1) n) ≡ count_by q (range_with_len (a + 1) n)
    = count_same p q (a + 1) n (λ m low high. h m (omega arith) (omega arith)) in
    omega (arith, first, rest, sum_by-cons (λ x. cond (p x) 1 0) a (range_with_len (a + 1) n), sum_by-cons (λ x. cond (q x) 1 0) a (range_with_len (a + 1) n))

-- where none in a range passes, none is counted
pub count_none : (p : ℕ → Bool) (a n : ℕ) → ((m : ℕ) → a ≤ m → m < a + n → p m ≡ false) → count_by p (range_with_len a n) ≡ 0
count_none p a zero h = refl
count_none p a (suc n) h =
    let first : cond {A = ℕ} (p a) 1 0 ≡ 0 = cond-false (p a) 1 0 (h a (omega arith) (omega arith)) in
    let rest : count_by p (range_with_len (a + 1) n) ≡ 0 = count_none p (a + 1) n (λ m low high. h m (omega arith) (omega arith)) in
    omega (arith, first, rest, sum_by-cons (λ x. cond (p x) 1 0) a (range_with_len (a + 1) n))

-- where all in a range that pass are one, at most one is counted
pub count_one : (p : ℕ → Bool) (a n : ℕ) → ((i j : ℕ) → a ≤ i → i < j → j < a + n → p i ≡ true → p j ≡ true → ⊥)
    → count_by p (range_with_len a n) ≤ 1
count_one p a zero h = omega arith
count_one p a (suc n) h =
    let step = sum_by-cons (λ x. cond (p x) 1 0) a (range_with_len (a + 1) n) in
    elim (cases_Bool (p a)) [
      | inl passes ↦
          let rest = count_none p (a + 1) n (λ m low high. elim (cases_Bool (p m)) [
            | inl two ↦ absurd (h a m (omega arith) (omega arith) (omega arith) passes two)
            | inr none ↦ none
          ]) in
          omega (arith, cond-true {A = ℕ} (p a) 1 0 passes, rest, step)
      | inr fails ↦ omega (arith, cond-false {A = ℕ} (p a) 1 0 fails, count_one p (a + 1) n (λ i j low before high. h i j (omega arith) before (omega arith)), step)
    ]

-- where one in a range passes, at least one is counted
pub count_some : (p : ℕ → Bool) (a n m : ℕ) → a ≤ m → m < a + n → p m ≡ true → 1 ≤ count_by p (range_with_len a n)
count_some p a zero m low high passes = absurd (omega arith)
count_some p a (suc n) m low high passes =
    let step = sum_by-cons (λ x. cond (p x) 1 0) a (range_with_len (a + 1) n) in
    elim (cases_eq m a) [
      | inl same ↦ omega (arith, cond-true {A = ℕ} (p a) 1 0 (rw same at passes), step)
      | inr other ↦ omega (arith, count_some p (a + 1) n m (omega arith) (omega arith) passes, step)
    ]

-- those that run on a worker up to v, and one worker more
pub count_up_to : (runs : ℕ → Bool) (worker : ℕ → ℕ) (v a n : ℕ)
    → count_by (λ m. runs m && nat_le (worker m) (suc v)) (range_with_len a n)
    ≡ count_by (λ m. runs m && nat_le (worker m) v) (range_with_len a n) + count_by (λ m. runs m && eqb (worker m) (suc v)) (range_with_len a n)
count_up_to runs worker v a zero = refl
count_up_to runs worker v a (suc n) =
    let rest = count_up_to runs worker v (a + 1) n in
    let first : cond {A = ℕ} (runs a && nat_le (worker a) (suc v)) 1 0 ≡ cond (runs a && nat_le (worker a) v) 1 0 + cond (runs a && eqb (worker a) (suc v)) 1 0
    = grind (arith, nat_tests) in
    omega (
      arith,
      rest,
      first,
      sum_by-cons (λ m. cond (runs m && nat_le (worker m) (suc v)) 1 0) a (range_with_len (a + 1) n),
      sum_by-cons (λ m. cond (runs m && nat_le (worker m) v) 1 0) a (range_with_len (a + 1) n),
      sum_by-cons (λ m. cond (runs m && eqb (worker m) (suc v)) 1 0) a (range_with_len (a + 1) n),
    )

module _ (runs : ℕ → Bool) (worker : ℕ → ℕ) (a n : ℕ)
    (apart : (i j : ℕ) → a ≤ i → i < j → j < a + n → runs i ≡ true → runs j ≡ true → worker i ≢ worker j)
    (from : (m : ℕ) → a ≤ m → m < a + n → runs m ≡ true → 1 ≤ worker m) where
  -- how many run on workers up to v, and on the worker v
  up_to : ℕ → ℕ
  up_to v = count_by (λ m. runs m && nat_le (worker m) v) (range_with_len a n)

  on : ℕ → ℕ
  on v = count_by (λ m. runs m && eqb (worker m) v) (range_with_len a n)

  up_to_zero : up_to 0 ≡ 0
  unfolding up_to
  up_to_zero = count_none (λ m. runs m && nat_le (worker m) 0) a n
      (λ m low high. elim (cases_Bool (runs m)) [
        | inl is ↦ let some = from m low high is in grind (arith, nat_tests)
        | inr none ↦ and_left (runs m) (nat_le (worker m) 0) none
      ])

  up_to_more : (v : ℕ) → up_to (suc v) ≡ up_to v + on (suc v)
  unfolding up_to on
  up_to_more v = count_up_to runs worker v a n

  on_one : (v : ℕ) → on v ≤ 1
  unfolding on
  on_one v = count_one (λ m. runs m && eqb (worker m) v) a n
      (λ i j low before high first second.
      let one = and_parts (runs i) (eqb (worker i) v) first in
      let two = and_parts (runs j) (eqb (worker j) v) second in
      apart i j low before high one.0 two.0 (eqb-true (worker i) v one.1 ∙ sym (eqb-true (worker j) v two.1)))

  up_to_le : (v : ℕ) → up_to v ≤ v
  up_to_le zero = omega (arith, up_to_zero)
  up_to_le (suc v) = omega (arith, up_to_le v, up_to_more v, on_one (suc v))

  -- all that run are on the first k workers
  all_up_to : (k : ℕ) → ((m : ℕ) → a ≤ m → m < a + n → runs m ≡ true → worker m ≤ k) → count_by runs (range_with_len a n) ≡ up_to k
  unfolding up_to
  all_up_to k within = count_same runs (λ m. runs m && nat_le (worker m) k) a n
      (λ m low high. elim (cases_Bool (runs m)) [
        | inl is ↦ is ∙ sym (and_from (runs m) (nat_le (worker m) k) is (le-leb (worker m) k (within m low high is)))
        | inr none ↦ none ∙ sym (and_left (runs m) (nat_le (worker m) k) none)
      ])

  -- no more run than there are workers
  pub runs_within : (k : ℕ) → ((m : ℕ) → a ≤ m → m < a + n → runs m ≡ true → worker m ≤ k) → count_by runs (range_with_len a n) ≤ k
  runs_within k within = omega (arith, all_up_to k within, up_to_le k)

  -- where each worker runs one, as many run as there are workers
  up_to_ge : (v : ℕ) → ((w : ℕ) → 1 ≤ w → w ≤ v → 1 ≤ on w) → v ≤ up_to v
  up_to_ge zero h = omega arith
  up_to_ge (suc v) h =
      omega (arith, up_to_ge v (λ w some less. h w some (omega arith)), up_to_more v, h (suc v) (omega arith) (omega arith))

  on_some : (v m : ℕ) → a ≤ m → m < a + n → runs m ≡ true → worker m ≡ v → 1 ≤ on v
  unfolding on
  on_some v m low high is on_it = count_some (λ m. runs m && eqb (worker m) v) a n m low high (and_from (runs m) (eqb (worker m) v) is (eq-eqb (worker m) v on_it))

  pub runs_on_all : (k : ℕ) → ((m : ℕ) → a ≤ m → m < a + n → runs m ≡ true → worker m ≤ k)
      → ((w : ℕ) → 1 ≤ w → w ≤ k → (m : ℕ) × (a ≤ m) × (m < a + n) × (runs m ≡ true) × (worker m ≡ w)) → count_by runs (range_with_len a n) ≡ k
  runs_on_all k within each =
      let least = up_to_ge k (λ w some less. let there = each w some less in on_some w there.0 there.1 there.2 there.3 there.4) in
      omega (arith, all_up_to k within, up_to_le k, least)

  -- where one worker runs none, fewer run than there are workers
  up_to_lt : (v w : ℕ) → 1 ≤ w → w ≤ v → on w ≡ 0 → up_to v < v
  up_to_lt zero w some less none = absurd (omega arith)
  up_to_lt (suc v) w some less none =
      elim (cases_eq w (suc v)) [
        | inl last ↦ omega (arith, up_to_le v, up_to_more v, ap on (sym last), none)
        | inr other ↦ omega (arith, up_to_lt v w some (omega arith) none, up_to_more v, on_one (suc v))
      ]

  on_none : (v : ℕ) → ((m : ℕ) → a ≤ m → m < a + n → runs m ≡ true → worker m ≢ v) → on v ≡ 0
  unfolding on
  on_none v h = count_none (λ m. runs m && eqb (worker m) v) a n
      (λ m low high. elim (cases_Bool (runs m)) [
        | inl is ↦ let other = h m low high is in grind (arith, nat_tests)
        | inr none ↦ and_left (runs m) (eqb (worker m) v) none
      ])

  pub runs_not_on : (k w : ℕ) → ((m : ℕ) → a ≤ m → m < a + n → runs m ≡ true → worker m ≤ k) → 1 ≤ w → w ≤ k
      → ((m : ℕ) → a ≤ m → m < a + n → runs m ≡ true → worker m ≢ w) → count_by runs (range_with_len a n) < k
  runs_not_on k w within some less none = omega (arith, all_up_to k within, up_to_lt k w some less (on_none w none))
