-- The elements of lists that are joined or filtered.
use Rattle.std.proofs.Common.{◌≡◌, ◌⊎◌, zero, suc, inl, inr, List, [], ◌∷◌, Bool, true, Contains, arith, refl, sym, ◌∙◌, ap, subst}
use Rattle.std.specs.List.{AllPairs, filter, flat_map}
use Rattle.std.proofs.lemmas.Bool.{cases_Bool}
use Rattle.std.proofs.lemmas.List.Elements.{Contains-append_cases, Contains-append_left, Contains-append_right}

pub none_in_nil : {X : Type 0} (x : X) → Contains [] x → ⊥
none_in_nil x has = absurd (omega (arith, has.1))

pub first_in : {X : Type 0} (x : X) (xs : List X) → Contains (x ∷ xs) x
first_in x xs = (0, omega arith, refl)

pub later_in : {X : Type 0} (y : X) (xs : List X) (x : X) → Contains xs x → Contains (y ∷ xs) x
later_in y xs x (k, within, is) = (suc k, omega arith, is)

pub in_cons : {X : Type 0} (y : X) (xs : List X) (x : X) → Contains (y ∷ xs) x → (y ≡ x) ⊎ Contains xs x
in_cons y xs x (zero, within, is) = inl is
in_cons y xs x (suc k, within, is) = inr (k, omega arith, is)

pub in_one : {X : Type 0} (y x : X) → Contains (y ∷ []) x → y ≡ x
in_one y x has = elim (in_cons y [] x has) [
  | inl same ↦ same
  | inr none ↦ absurd (none_in_nil x none)
]

pub in_flat_map : {X Y : Type 0} (f : X → List Y) (xs : List X) (y : Y) → Contains (flat_map f xs) y → (x : X) × Contains xs x × Contains (f x) y
in_flat_map f [] y has = absurd (none_in_nil y has)
in_flat_map f (x ∷ xs) y has = elim (Contains-append_cases (f x) (flat_map f xs) y has) [
  | inl here ↦ (x, first_in x xs, here)
  | inr later ↦
      let (z, among, there) = in_flat_map f xs y later in
      (z, later_in x xs z among, there)
]

pub flat_map_has : {X Y : Type 0} (f : X → List Y) (xs : List X) (x : X) (y : Y) → Contains xs x → Contains (f x) y → Contains (flat_map f xs) y
flat_map_has f [] x y among has = absurd (none_in_nil x among)
flat_map_has f (z ∷ xs) x y among has = elim (in_cons z xs x among) [
  | inl here ↦ Contains-append_left (f z) (flat_map f xs) y (subst (λ w. Contains (f w) y) (sym here) has)
  | inr later ↦ Contains-append_right (f z) (flat_map f xs) y (flat_map_has f xs x y later has)
]

pub in_filter : {X : Type 0} (p : X → Bool) (xs : List X) (x : X) → Contains (filter p xs) x → Contains xs x × (p x ≡ true)
in_filter p [] x has = absurd (none_in_nil x has)
in_filter p (y ∷ xs) x has = elim (cases_Bool (p y)) [
  | inl passes ↦ elim (in_cons y (filter p xs) x (rw passes at has)) [
    | inl here ↦ ((0, omega arith, here), ap p (sym here) ∙ passes)
    | inr later ↦
        let rest = in_filter p xs x later in
        (later_in y xs x rest.0, rest.1)
  ]
  | inr fails ↦
      let rest = in_filter p xs x (rw fails at has) in
      (later_in y xs x rest.0, rest.1)
]

pub filter_has : {X : Type 0} (p : X → Bool) (xs : List X) (x : X) → Contains xs x → p x ≡ true → Contains (filter p xs) x
filter_has p [] x has passes = absurd (none_in_nil x has)
filter_has p (y ∷ xs) x has passes = elim (in_cons y xs x has) [
  | inl here ↦
      let this : p y ≡ true = ap p here ∙ passes in
      rw this (0, omega arith, here)
  | inr later ↦ elim (cases_Bool (p y)) [
    | inl this ↦ rw this (later_in y (filter p xs) x (filter_has p xs x later passes))
    | inr not ↦ rw not (filter_has p xs x later passes)
  ]
]

-- two lists of the same elements, each in one strict order, are equal
module _ {X : Type 0} (R : X → X → Type 0) (strict : (x y : X) → R x y → R y x → ⊥) where
  head_first : (x : X) (xs : List X) → AllPairs R (x ∷ xs) → (y : X) → Contains xs y → R x y
  head_first x xs all y (k, within, is) = subst (λ z. R x z) is (all 0 (suc k) y (omega arith) (omega arith))

  tail_pairs : (x : X) (xs : List X) → AllPairs R (x ∷ xs) → AllPairs R xs
  tail_pairs x xs all i j d before within = all (suc i) (suc j) d (omega arith) (omega arith)

  same_head : (x y : X) (xs ys : List X) → AllPairs R (x ∷ xs) → AllPairs R (y ∷ ys) → Contains (y ∷ ys) x → Contains (x ∷ xs) y → x ≡ y
  same_head x y xs ys all_x all_y in_y in_x = elim (in_cons y ys x in_y) [
    | inl same ↦ sym same
    | inr later ↦ elim (in_cons x xs y in_x) [
      | inl same ↦ same
      | inr after ↦ absurd (strict x y (head_first x xs all_x y after) (head_first y ys all_y x later))
    ]
  ]

  -- an element of the one rest is one of the other
  in_rest : (x y : X) (xs ys : List X) → x ≡ y → AllPairs R (x ∷ xs) → ((z : X) → Contains (x ∷ xs) z → Contains (y ∷ ys) z) → (z : X) → Contains xs z → Contains ys z
  in_rest x y xs ys same all_x to z among = elim (in_cons y ys z (to z (later_in x xs z among))) [
    | inl here ↦
        let after : R x z = head_first x xs all_x z among in
        let self : R x x = subst (λ w. R x w) (sym (same ∙ here)) after in
        absurd (strict x x self self)
    | inr later ↦ later
  ]

  pub same_elements : (xs ys : List X) → AllPairs R xs → AllPairs R ys → ((x : X) → Contains xs x → Contains ys x) → ((x : X) → Contains ys x → Contains xs x)
      → xs ≡ ys
  same_elements [] [] all_x all_y to from = refl
  same_elements [] (y ∷ ys) all_x all_y to from = absurd (none_in_nil y (from y (first_in y ys)))
  same_elements (x ∷ xs) [] all_x all_y to from = absurd (none_in_nil x (to x (first_in x xs)))
  same_elements (x ∷ xs) (y ∷ ys) all_x all_y to from =
      let same : x ≡ y = same_head x y xs ys all_x all_y (to x (first_in x xs)) (from y (first_in y ys)) in
      let rest : xs ≡ ys
      = same_elements xs ys (tail_pairs x xs all_x) (tail_pairs y ys all_y) (in_rest x y xs ys same all_x to) (in_rest y x ys xs (sym same) all_y from) in
      ap (λ z. z ∷ xs) same ∙ ap (λ zs. y ∷ zs) rest
