-- Lists of all that pass a test, each once.
use Rattle.std.proofs.Common.{◌≡◌, ◌≢◌, ℕ, zero, suc, ◌+◌, ◌≤◌, ◌⊎◌, inl, inr, cond, ◌==◌, List, [], ◌∷◌, ◌++◌, map, All, Contains, arith, refl, ap, sym, ◌∙◌, subst}
use Rattle.std.specs.List.Sorted.{IsPermutation}
use Rattle.std.proofs.lemmas.Bool.{cases_eq}
use Rattle.std.proofs.lemmas.List.{get_or-map, length-map}
use Rattle.std.proofs.lemmas.List.Elements.{All-head, All-tail, Contains-append_left, Contains-push_cases}
use Rattle.std.proofs.lemmas.List.Sorted.{IsPermutation-sym, IsPermutation-trans, IsPermutation-map, IsPermutation-middle, IsPermutation-append_left, IsPermutation-append_right, Contains-permutation, sum_by-IsPermutation}
use Rattle.std.proofs.lemmas.List.Sums.{sum_by-append}
use Rattle.waff_waits.specs.Times.{AreEach, times}
use Rattle.waff_waits.proofs.TimesLemmas.{times_some, times_none, times_cons_same, times_cons_other}

-- nothing is in the empty list, and what is in a longer one is its first element or one of the rest
pub none_there : {X : Type 0} (x : X) → Contains [] x → ⊥
none_there x there = let within = there.1 in omega (arith, within)

pub contains_rest_of : {X : Type 0} (x y : X) (xs : List X) → Contains (x ∷ xs) y → Contains xs y ⊎ (y ≡ x)
contains_rest_of x y xs (zero, within, is) = inr (sym is)
contains_rest_of x y xs (suc k, within, is) = inl (k, omega arith, is)

pub contains_more : {X : Type 0} (x y : X) (xs : List X) → Contains xs y → Contains (x ∷ xs) y
contains_more x y xs (k, within, is) = (suc k, omega arith, is)

pub contains_first : {X : Type 0} (x : X) (xs : List X) → Contains (x ∷ xs) x
contains_first x xs = (0, omega arith, refl)

pub one_of : {X : Type 0} (xs : List X) (x y : X) → Contains (xs ++ x ∷ []) y → Contains xs y ⊎ (y ≡ x)
one_of xs x y there = elim (Contains-push_cases xs x y there) [ inl first ↦ inl first | inr is ↦ inr (sym is) ]

-- what a list is mapped to
pub contains_map : {X : Type 0} {Y : Type 0} (f : X → Y) (xs : List X) (x : X) → Contains xs x → Contains (map f xs) (f x)
contains_map f xs x there =
    let within = there.1 in
    (there.0, omega (arith, within, length-map xs f), get_or-map f xs there.0 x (f x) within ∙ ap f there.2)

pub contains_mapped : {X : Type 0} {Y : Type 0} (f : X → Y) (xs : List X) (y : Y) → Contains (map f xs) y → (x : X) × Contains xs x × (f x ≡ y)
contains_mapped f [] y there = absurd (none_there y there)
contains_mapped f (x ∷ xs) y (zero, within, is) = (x, contains_first x xs, is)
contains_mapped f (x ∷ xs) y (suc k, within, is) =
    let rest = contains_mapped f xs y (k, omega arith, is) in
    (rest.0, contains_more x rest.0 xs rest.1, rest.2)

pub times_append : (x : ℕ) (xs ys : List ℕ) → times x (xs ++ ys) ≡ times x xs + times x ys
times_append x xs ys = sum_by-append (λ y. cond (y == x) 1 0) xs ys

times_moved : (x : ℕ) (xs ys : List ℕ) → IsPermutation xs ys → times x ys ≡ times x xs
times_moved x xs ys moved = sum_by-IsPermutation (λ y. cond (y == x) 1 0) xs ys moved

pub times_listed : (x : ℕ) (xs : List ℕ) → 1 ≤ times x xs → Contains xs x
times_listed x [] some = absurd (omega (arith, some))
times_listed x (y ∷ ys) some = elim (cases_eq x y) [
  | inl same ↦ subst (λ z. Contains (y ∷ ys) z) (sym same) (contains_first y ys)
  | inr other ↦ contains_more y x ys (times_listed x ys (omega (arith, some, times_cons_other ys x other)))
]

module _ (Passes : ℕ → Type 0) (xs : List ℕ) (h : AreEach Passes xs) where
  pub each_there : (x : ℕ) → Passes x → Contains xs x
  each_there x passes = times_listed x xs (omega (arith, h.each x passes))

  pub each_moved : (ys : List ℕ) → IsPermutation xs ys → AreEach Passes ys
  each_moved ys moved = record {
    only = λ x there. h.only x (Contains-permutation ys xs x (IsPermutation-sym xs ys moved) there);
    each = λ x passes. times_moved x xs ys moved ∙ h.each x passes;
  }

  -- one that passes now, or one that passes another test
  pub each_more : (Now : ℕ → Type 0) (x : ℕ) → (Contains xs x → ⊥) → Now x → ((y : ℕ) → Passes y → Now y) → ((y : ℕ) → Now y → y ≢ x → Passes y)
      → AreEach Now (x ∷ xs)
  each_more Now x new passes kept back = record {
    only = λ y there. elim (contains_rest_of x y xs there) [ inl was ↦ kept y (h.only y was) | inr same ↦ subst Now (sym same) passes ];
    each = λ y now. elim (cases_eq y x) [
      | inl same ↦ subst (λ z. times z (x ∷ xs) ≡ 1) (sym same) (omega (arith, times_cons_same xs x, times_none x xs new))
      | inr other ↦ times_cons_other xs y other ∙ h.each y (back y now other)
    ];
  }

  pub each_same : (Now : ℕ → Type 0) → ((y : ℕ) → Passes y → Now y) → ((y : ℕ) → Now y → Passes y) → AreEach Now xs
  each_same Now kept back = record { only = λ y there. kept y (h.only y there); each = λ y now. h.each y (back y now) }

pub each_apart : (Passes : ℕ → Type 0) (xs ys : List ℕ) → AreEach Passes (xs ++ ys) → (x : ℕ) → Contains xs x → Contains ys x → ⊥
each_apart Passes xs ys h x first second =
    omega (arith, h.each x (h.only x (Contains-append_left xs ys x first)), times_append x xs ys, times_some x xs first, times_some x ys second)

-- one that passes now is pushed to the second part
pub each_pushed : (Passes Now : ℕ → Type 0) (x : ℕ) (xs ys new : List ℕ) → AreEach Passes (xs ++ ys) → IsPermutation (x ∷ ys) new → (Passes x → ⊥) → Now x
    → ((y : ℕ) → Passes y → Now y) → ((y : ℕ) → Now y → y ≢ x → Passes y) → AreEach Now (xs ++ new)
each_pushed Passes Now x xs ys new h pushed before passes kept back =
    each_moved Now (x ∷ xs ++ ys) (each_more Passes (xs ++ ys) h Now x (λ there. before (h.only x there)) passes kept back) (xs ++ new)
    (IsPermutation-trans (x ∷ xs ++ ys) (xs ++ x ∷ ys) (xs ++ new)
    (IsPermutation-sym (xs ++ x ∷ ys) (x ∷ xs ++ ys) (IsPermutation-middle xs x ys)) (IsPermutation-append_right xs (x ∷ ys) new pushed))

-- two functions that agree on a list
pub map_same : {X : Type 0} {Y : Type 0} (f g : X → Y) (xs : List X) → All (λ x. f x ≡ g x) xs → map f xs ≡ map g xs
map_same f g [] h = refl
map_same f g (x ∷ xs) h =
    ap (λ y. y ∷ map f xs) (All-head (λ y. f y ≡ g y) x xs h) ∙ ap (λ ys. g x ∷ ys) (map_same f g xs (All-tail (λ y. f y ≡ g y) x xs h))

-- the workers that are idle and those of what runs, where one begins or ends to run
module _ {X : Type 0} (f : X → ℕ) (idle : List ℕ) (old : List X) (r : X) (new : List X) where
  pub manned_more : (g : X → ℕ) → All (λ x. f x ≡ g x) old → IsPermutation (r ∷ old) new → IsPermutation (g r ∷ idle ++ map f old) (idle ++ map g new)
  manned_more g kept pushed =
      let run : IsPermutation (g r ∷ map f old) (map g new) = subst (λ ys. IsPermutation (g r ∷ ys) (map g new)) (sym (map_same f g old kept)) (IsPermutation-map g (r ∷ old) new pushed) in
      IsPermutation-trans (g r ∷ idle ++ map f old) (idle ++ g r ∷ map f old) (idle ++ map g new)
      (IsPermutation-sym (idle ++ g r ∷ map f old) (g r ∷ idle ++ map f old) (IsPermutation-middle idle (g r) (map f old)))
      (IsPermutation-append_right idle (g r ∷ map f old) (map g new) run)

  pub manned_less : (after : List ℕ) → IsPermutation old (r ∷ new) → IsPermutation (f r ∷ idle) after → IsPermutation (idle ++ map f old) (after ++ map f new)
  manned_less after popped pushed =
      IsPermutation-trans (idle ++ map f old) (idle ++ f r ∷ map f new) (after ++ map f new)
      (IsPermutation-append_right idle (map f old) (f r ∷ map f new) (IsPermutation-map f old (r ∷ new) popped))
      (IsPermutation-trans (idle ++ f r ∷ map f new) (f r ∷ idle ++ map f new) (after ++ map f new)
      (IsPermutation-middle idle (f r) (map f new)) (IsPermutation-append_left (map f new) (f r ∷ idle) after pushed))
