-- An order is no longer than the messages are many.
use Rattle.std.proofs.Common.{◌≡◌, ℕ, zero, suc, ◌+◌, ◌<◌, ◌≤◌, true, false, eqb, List, ◌∷◌, length, Some, slice_get, get_or, arith, subst, ⊎_elim}
use Rattle.std.specs.List.{list_any}
use Rattle.std.proofs.lemmas.Bool.{eqb-true, or_cases, false_from_ne_true}
use Rattle.std.proofs.lemmas.List.Elements.{All-get_or}
use Rattle.std.proofs.lemmas.List.Folds.{Any-from_list_any}
use Rattle.std.proofs.lemmas.Map.Keys.{IsDistinct-from_apart}
use Rattle.std.proofs.lemmas.Map.Steps.{length-le_from_distinct_below}
use Rattle.std.proofs.lemmas.Option.{slice_get-get_or}
use Rattle.waff_core.specs.Job.{IsOrder}

module _ (needs : List (List ℕ)) (order : List ℕ) (is : IsOrder needs order) where
  message_at : (k d : ℕ) → k < length order → (1 ≤ get_or order k d) × (get_or order k d ≤ length needs)
  message_at k d within = All-get_or (λ n. (1 ≤ n) × (n ≤ length needs)) order k d within is.messages

  -- with 0, which is no message, the numbers differ
  apart : (i j d : ℕ) → i < j → j < length (0 ∷ order) → eqb (get_or (0 ∷ order) i d) (get_or (0 ∷ order) j d) ≡ false
  apart i zero d before within = absurd (omega arith)
  apart zero (suc j) d before within =
      let from : 1 ≤ get_or order j d = (message_at j d (omega arith)).0 in
      false_from_ne_true (eqb 0 (get_or order j d)) (λ same. let is_none : 0 ≡ get_or order j d = eqb-true 0 (get_or order j d) same in omega arith)
  apart (suc i) (suc j) d before within =
      let short : j < length order = omega arith in
      false_from_ne_true (eqb (get_or order i d) (get_or order j d))
      (λ same.
      let equal : get_or order i d ≡ get_or order j d = eqb-true (get_or order i d) (get_or order j d) same in
      let places : i ≡ j
      = is.once i j (get_or order j d)
      (subst (λ n. slice_get order i ≡ Some n) equal (slice_get-get_or order i d (omega arith)))
      (slice_get-get_or order j d short) in
      omega arith)

  below : (q : ℕ) → list_any (eqb q) (0 ∷ order) ≡ true → q < length needs + 1
  below q has =
      ⊎_elim {C = q < length needs + 1}
      (λ (first : eqb q 0 ≡ true). let none : q ≡ 0 = eqb-true q 0 first in omega arith)
      (λ (rest : list_any (eqb q) order ≡ true).
      let found = Any-from_list_any (eqb q) order rest in
      let same : q ≡ found.1 = eqb-true q found.1 found.4 in
      let at : get_or order found.0 found.1 ≡ found.1 = found.3 in
      let to : get_or order found.0 found.1 ≤ length needs = (message_at found.0 found.1 found.2).1 in
      omega arith)
      (or_cases (eqb q 0) (list_any (eqb q) order) has)

  pub order_is_short : length order ≤ length needs
  order_is_short =
      let short : length (0 ∷ order) ≤ length needs + 1
      = length-le_from_distinct_below (0 ∷ order) (length needs + 1) (IsDistinct-from_apart eqb (0 ∷ order) apart) below in
      omega arith
