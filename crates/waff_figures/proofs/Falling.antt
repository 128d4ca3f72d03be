-- Lists sorted by a number that falls, where those of the same number are left in their order.
use Rattle.std.proofs.Common.{◌≡◌, ℕ, zero, suc, ◌<◌, ◌≤◌, ◌⊎◌, inl, inr, cond, ltb, ◌==◌, ◌&&◌, not, Bool, true, false, List, [], ◌∷◌, length, get_or, filter, arith, refl, sym, ◌∙◌, ap, subst}
use Rattle.std.specs.Cmp.{IsStrictWeakOrder, nat_cmp_total}
use Rattle.std.specs.List.{AllPairs}
use Rattle.std.specs.List.Sorted.{IsSortedBy, IsStableBy, ties}
use Rattle.std.specs.Ordering.{is_lt, nat_cmp}
use Rattle.std.specs.declared.cmp.Ordering.TheVariants.{Less, Equal, Greater}
use Rattle.std.proofs.lemmas.Bool.{cases_Bool, cases_lt, false≢true}
use Rattle.std.proofs.lemmas.Bool.Decides.{nat_tests}
use Rattle.std.proofs.lemmas.List.Kept.{AllPairs-filter}
use Rattle.std.proofs.lemmas.List.Sorted.{IsStrictWeakOrder-flip, ranks_by, sorted_far}

module _ {X : Type 0} (p : X → Bool) where
  abbrev Among : List X → X → X → Type 0
  Among zs d y = (k : ℕ) × (k < length zs) × (get_or zs k d ≡ y)

  -- an element that passes is among those that do
  kept : (xs : List X) (j : ℕ) (d : X) → j < length xs → p (get_or xs j d) ≡ true → Among (filter p xs) d (get_or xs j d)
  kept [] j d low pass = absurd (omega (arith, low))
  kept (x ∷ xs) zero d low pass =
      subst (λ b. Among (cond b (x ∷ filter p xs) (filter p xs)) d x) (sym pass) (0, omega arith, refl)
  kept (x ∷ xs) (suc j) d low pass =
      let there = kept xs j d (omega (arith, low)) pass in
      elim (cases_Bool (p x)) [
        | inl first ↦ subst (λ b. Among (cond b (x ∷ filter p xs) (filter p xs)) d (get_or xs j d)) (sym first) (suc there.0, omega (arith, there.1), there.2)
        | inr first ↦ subst (λ b. Among (cond b (x ∷ filter p xs) (filter p xs)) d (get_or xs j d)) (sym first) there
      ]

  -- two elements that pass stand as they do among those that pass
  kept_pairs : (R : X → X → Type 0) (xs : List X) → AllPairs R (filter p xs) → (i j : ℕ) (d : X) → i < j → j < length xs
      → p (get_or xs i d) ≡ true → p (get_or xs j d) ≡ true → R (get_or xs i d) (get_or xs j d)
  kept_pairs R [] pairs i j d less low one other = absurd (omega (arith, low))
  kept_pairs R (x ∷ xs) pairs i zero d less low one other = absurd (omega (arith, less))
  kept_pairs R (x ∷ xs) pairs zero (suc j) d less low one other =
      let those = subst (λ b. AllPairs R (cond b (x ∷ filter p xs) (filter p xs))) one pairs in
      let there = kept xs j d (omega (arith, low)) other in
      subst (R x) there.2 (those 0 (suc there.0) d (omega arith) (omega (arith, there.1)))
  kept_pairs R (x ∷ xs) pairs (suc i) (suc j) d less low one other =
      let rest : AllPairs R (filter p xs) = elim (cases_Bool (p x)) [
        | inl first ↦
            let those = subst (λ b. AllPairs R (cond b (x ∷ filter p xs) (filter p xs))) first pairs in
            λ k l e under within. those (suc k) (suc l) e (omega (arith, under)) (omega (arith, within))
        | inr first ↦ subst (λ b. AllPairs R (cond b (x ∷ filter p xs) (filter p xs))) first pairs
      ] in
      kept_pairs R xs rest i j d (omega (arith, less)) (omega (arith, low)) one other

no_less : (a b : ℕ) → is_lt (nat_cmp a b) ≡ false → b ≤ a
no_less a b fails = elim (cases_lt a b) [
  | inr above ↦ above
  | inl below ↦
      let pass : ltb a b ≡ true = grind (arith, nat_tests, below) in
      absurd (false≢true (sym fails ∙ ap (λ t. is_lt (cond t Less (cond (a == b) Equal Greater))) pass))
]

ties_at : (a b : ℕ) → a ≡ b → (not (is_lt (nat_cmp a b)) && not (is_lt (nat_cmp b a))) ≡ true
ties_at a b same =
    let one : ltb a b ≡ false = grind (arith, nat_tests, same) in
    let other : ltb b a ≡ false = grind (arith, nat_tests, same) in
    let equal : (a == b) ≡ true = grind (arith, nat_tests, same) in
    let back : (b == a) ≡ true = grind (arith, nat_tests, same) in
    rw (one, other, equal, back) refl

module _ {X : Type 0} (key : X → ℕ) where
  -- whether the one comes first
  abbrev pub is_above : X → X → Bool
  is_above one other = is_lt (nat_cmp (key other) (key one))

  above_is_order : IsStrictWeakOrder is_above
  above_is_order = IsStrictWeakOrder-flip (λ (x : X) (y : X). is_lt (nat_cmp (key x) (key y))) (ranks_by nat_cmp_total key)

  -- of two that a stable sort has put in order the one has the greater number, or the same and stood first
  pub falls : (R : X → X → Type 0) (xs ys : List X) → AllPairs R xs → IsSortedBy is_above ys → IsStableBy is_above xs ys
      → AllPairs (λ one other. (key other < key one) ⊎ ((key one ≡ key other) × R one other)) ys
  falls R xs ys order sorted stable i j d less low =
      let one = get_or ys i d in
      let other = get_or ys j d in
      let down : key other ≤ key one = no_less (key one) (key other) (sorted_far is_above above_is_order ys sorted i j d (omega (arith, less)) low) in
      elim (cases_lt (key other) (key one)) [
        | inl fewer ↦ inl fewer
        | inr no_fewer ↦
            let same : key one ≡ key other = omega (arith, down, no_fewer) in
            inr (
              same,
              kept_pairs (ties is_above one) R ys
                  (subst (AllPairs R) (sym (stable one)) (AllPairs-filter R (ties is_above one) xs order)) i j d less low
                  (ties_at (key one) (key one) refl) (ties_at (key other) (key one) (sym same)),
            )
      ]
