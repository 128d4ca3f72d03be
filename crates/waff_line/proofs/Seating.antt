-- Messages that run at one tick on different seats are no more than the seats.
use Rattle.std.proofs.Common.{◌≡◌, ◌≢◌, ℕ, zero, suc, ◌+◌, ◌<◌, ◌≤◌, inl, inr, Bool, true, false, cond, eqb, List, [], ◌∷◌, length, count_by, refl, ◌∙◌, sym, arith}
use Rattle.std.specs.List.{range_with_len, IsDistinct, AllByRecursion, list_any}
use Rattle.std.proofs.lemmas.Bool.{eqb-true, false≢true, ne_eqb, or_cases}
use Rattle.std.proofs.lemmas.List.Sums.{sum_by-cons}
use Rattle.std.proofs.lemmas.Map.Keys.{IsDistinct-cons}
use Rattle.std.proofs.lemmas.Map.Steps.{length-le_from_distinct_below}

-- the seats of those of n messages from a on that run
abbrev seats : (ℕ → Bool) → (ℕ → ℕ) → ℕ → ℕ → List ℕ
seats runs seat a zero = []
seats runs seat a (suc n) = cond (runs a) (seat a ∷ seats runs seat (a + 1) n) (seats runs seat (a + 1) n)

module _ (runs : ℕ → Bool) (seat : ℕ → ℕ) where
  -- they are as many as run
  as_many : (a n : ℕ) → length (seats runs seat a n) ≡ count_by runs (range_with_len a n)
  as_many a zero = refl
  as_many a (suc n) = step (runs a) (as_many (a + 1) n) ∙ sym (sum_by-cons (λ m. cond (runs m) 1 0) a (range_with_len (a + 1) n))
    where
      step : (b : Bool) → length (seats runs seat (a + 1) n) ≡ count_by runs (range_with_len (a + 1) n)
          → length (cond b (seat a ∷ seats runs seat (a + 1) n) (seats runs seat (a + 1) n)) ≡ cond b 1 0 + count_by runs (range_with_len (a + 1) n)
      step true rest = omega (arith, rest)
      step false rest = omega (arith, rest)

  -- what no message that runs has is not among them
  not_among : (a n x : ℕ) → ((m : ℕ) → a ≤ m → m < a + n → runs m ≡ true → x ≢ seat m) → AllByRecursion (λ y. eqb x y ≡ false) (seats runs seat a n)
  not_among a zero x other = tt
  not_among a (suc n) x other = step (runs a) refl (not_among (a + 1) n x (λ m low high. other m (omega (arith, low)) (omega (arith, high))))
    where
      step : (b : Bool) → runs a ≡ b → AllByRecursion (λ y. eqb x y ≡ false) (seats runs seat (a + 1) n)
          → AllByRecursion (λ y. eqb x y ≡ false) (cond b (seat a ∷ seats runs seat (a + 1) n) (seats runs seat (a + 1) n))
      step true is rest = (ne_eqb x (seat a) (other a (omega arith) (omega arith) is), rest)
      step false is rest = rest

  -- no two are the same, where messages that run have seats of their own
  distinct : (a n : ℕ) → ((i j : ℕ) → a ≤ i → i < j → j < a + n → runs i ≡ true → runs j ≡ true → seat i ≢ seat j)
      → IsDistinct eqb (seats runs seat a n)
  unfolding IsDistinct
  distinct a zero own = tt
  distinct a (suc n) own = step (runs a) refl (distinct (a + 1) n (λ i j low less high. own i j (omega (arith, low)) less (omega (arith, high))))
    where
      step : (b : Bool) → runs a ≡ b → IsDistinct eqb (seats runs seat (a + 1) n)
          → IsDistinct eqb (cond b (seat a ∷ seats runs seat (a + 1) n) (seats runs seat (a + 1) n))
      step true is rest = IsDistinct-cons eqb (seat a) (seats runs seat (a + 1) n)
          (not_among (a + 1) n (seat a) (λ m low high. own a m (omega arith) (omega (arith, low)) (omega (arith, high)) is)) rest
      step false is rest = rest

  -- each is below k, where each message that runs has such a seat
  among_below : (a n k : ℕ) → ((m : ℕ) → a ≤ m → m < a + n → runs m ≡ true → seat m < k) → (q : ℕ)
      → list_any (eqb q) (seats runs seat a n) ≡ true → q < k
  among_below a zero k below q there = absurd (false≢true there)
  among_below a (suc n) k below q there = step (runs a) refl (among_below (a + 1) n k (λ m low high. below m (omega (arith, low)) (omega (arith, high))) q) there
    where
      step : (b : Bool) → runs a ≡ b → (list_any (eqb q) (seats runs seat (a + 1) n) ≡ true → q < k)
          → list_any (eqb q) (cond b (seat a ∷ seats runs seat (a + 1) n) (seats runs seat (a + 1) n)) ≡ true → q < k
      step true is rest among = elim (or_cases (eqb q (seat a)) (list_any (eqb q) (seats runs seat (a + 1) n)) among) [
        | inl here ↦ omega (arith, eqb-true q (seat a) here, below a (omega arith) (omega arith) is)
        | inr later ↦ rest later
      ]
      step false is rest among = rest among

  -- no more run than there are seats
  pub few_run : (a n k : ℕ) → ((i j : ℕ) → a ≤ i → i < j → j < a + n → runs i ≡ true → runs j ≡ true → seat i ≢ seat j)
      → ((m : ℕ) → a ≤ m → m < a + n → runs m ≡ true → seat m < k) → count_by runs (range_with_len a n) ≤ k
  few_run a n k own below =
      omega (arith, as_many a n, length-le_from_distinct_below (seats runs seat a n) k (distinct a n own) (among_below a n k below))
