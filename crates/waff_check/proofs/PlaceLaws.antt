-- The first place at which a test is true.
use Rattle.std.proofs.Common.{◌≡◌, ℕ, zero, suc, ◌+◌, ◌-◌, ◌^◌, ◌<◌, min, List, [], ◌∷◌, Bool, true, false, Option, Some, None, option_map, refl, subst, arith, inl, inr, ◌⊎◌}
use Rattle.std.specs.List.{AllZip, range_with_len}
use Rattle.rayon.specs.Lists.{first_true}
use Rattle.waff_check.specs.Searches.{IsFirstPlace}

-- the first of the n numbers from a on
abbrev At : (ℕ → Type 0) → ℕ → ℕ → Option ℕ → Type 0
At P a n o = IsFirstPlace (λ i. P (a + i)) n o

-- whether a number is 0
split : (i : ℕ) → (i ≡ 0) ⊎ ((k : ℕ) × (i ≡ suc k))
split zero = inl refl
split (suc k) = inr (k, refl)

later : (P : ℕ → Type 0) (a n : ℕ) (o : Option ℕ) → n < 2 ^ 64 - 1 → (P a → ⊥) → At P (a + 1) n o → At P a (suc n) (option_map (λ k. min (k + 1) (2 ^ 64 - 1)) o)
later P a n None lt not_here h = λ i below p. elim (split i) [
  | inl e ↦ (let same : a + i ≡ a = omega arith in not_here (subst P same p))
  | inr (k, e) ↦ (let same : a + i ≡ a + 1 + k = omega arith in h k (omega arith) (subst P same p))
]
later P a n (Some k) lt not_here h =
    let small : min (k + 1) (2 ^ 64 - 1) ≡ k + 1 = (let b = h.0 in omega arith) in
    let next : a + 1 + k ≡ a + (k + 1) = omega arith in
    rw small (
      let b = h.0 in omega arith,
      subst P next h.1,
      λ i below p. elim (split i) [
        | inl e ↦ (let same : a + i ≡ a = omega arith in not_here (subst P same p))
        | inr (m, e) ↦ (let same : a + i ≡ a + 1 + m = omega arith in h.2 m (omega arith) (subst P same p))
      ],
    )

first_true-range : (P : ℕ → Type 0) (a n : ℕ) (bs : List Bool) → AllZip (λ x b. (b ≡ true → P x) × (P x → b ≡ true)) (range_with_len a n) bs → n < 2 ^ 64 - 1
    → At P a n (first_true bs)
first_true-range P a zero [] h lt = λ i below p. omega arith
first_true-range P a zero (b ∷ bs) h lt = absurd h
first_true-range P a (suc n) [] h lt = absurd h
first_true-range P a (suc n) (true ∷ bs) h lt =
    let same : a ≡ a + 0 = omega arith in
    (omega arith, subst P same (h.0.0 refl), λ i below p. omega arith)
first_true-range P a (suc n) (false ∷ bs) h lt = later P a n (first_true bs) (omega arith) (λ p. cc (h.0.1 p)) (first_true-range P (a + 1) n bs h.1 (omega arith))

-- the first of n places from a on
pub first-place : (P : ℕ → Type 0) (a n : ℕ) (xs : List ℕ) (bs : List Bool) (o : Option ℕ) → AllZip (λ x b. (b ≡ true → P x) × (P x → b ≡ true)) xs bs
    → xs ≡ range_with_len a n → n < 2 ^ 64 - 1 → o ≡ first_true bs → IsFirstPlace (λ i. P (a + i)) n o
first-place P a n xs bs o zip is lt first = rw first (first_true-range P a n bs (rw is at zip) lt)
