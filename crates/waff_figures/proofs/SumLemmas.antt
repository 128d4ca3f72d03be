-- Sums over the messages and over the affinities.
use Rattle.std.proofs.Common.{◌≡◌, ℕ, zero, suc, ◌+◌, ◌<◌, ◌≤◌, Bool, inl, inr, cond, ◌==◌, List, [], ◌∷◌, length, get_or, count_by, sum_by, arith, refl, ap}
use Rattle.std.specs.List.{range_with_len}
use Rattle.std.proofs.lemmas.Bool.{cases_Bool, cases_eq}
use Rattle.std.proofs.lemmas.Bool.Decides.{nat_tests}
use Rattle.std.proofs.lemmas.List.Sums.{sum_by-cons}

-- sums of equal terms are equal
pub sum_same : (f g : ℕ → ℕ) (a n : ℕ) → ((m : ℕ) → a ≤ m → m < a + n → f m ≡ g m)
    → sum_by f (range_with_len a n) ≡ sum_by g (range_with_len a n)
sum_same f g a zero h = refl
sum_same f g a (suc n) h =
    let first : f a ≡ g a = h a (omega arith) (omega arith) in
    let rest : sum_by f (range_with_len (a + 1) n) ≡ sum_by g (range_with_len (a + 1) n)
    = sum_same f g (a + 1) n (λ m low high. h m (omega arith) (omega arith)) in
    omega (arith, first, rest, sum_by-cons f a (range_with_len (a + 1) n), sum_by-cons g a (range_with_len (a + 1) n))

-- terms that are nowhere greater
pub sum_within : (f g : ℕ → ℕ) (a n : ℕ) → ((m : ℕ) → a ≤ m → m < a + n → f m ≤ g m)
    → sum_by f (range_with_len a n) ≤ sum_by g (range_with_len a n)
sum_within f g a zero h = omega arith
sum_within f g a (suc n) h =
    let first : f a ≤ g a = h a (omega arith) (omega arith) in
    let rest : sum_by f (range_with_len (a + 1) n) ≤ sum_by g (range_with_len (a + 1) n)
    = sum_within f g (a + 1) n (λ m low high. h m (omega arith) (omega arith)) in
    omega (arith, first, rest, sum_by-cons f a (range_with_len (a + 1) n), sum_by-cons g a (range_with_len (a + 1) n))

-- sums over any list
pub sum_all_same : {X : Type 0} (f g : X → ℕ) (xs : List X) → ((k : ℕ) (d : X) → k < length xs → f (get_or xs k d) ≡ g (get_or xs k d)) → sum_by f xs ≡ sum_by g xs
sum_all_same f g [] same = refl
sum_all_same f g (x ∷ xs) same =
    let first : f x ≡ g x = same 0 x (omega arith) in
    let rest : sum_by f xs ≡ sum_by g xs = sum_all_same f g xs (λ k d low. same (suc k) d (omega (arith, low))) in
    omega (arith, first, rest, sum_by-cons f x xs, sum_by-cons g x xs)

pub sum_both : {X : Type 0} (f g : X → ℕ) (xs : List X) → sum_by (λ x. f x + g x) xs ≡ sum_by f xs + sum_by g xs
sum_both f g [] = refl
sum_both f g (x ∷ xs) = omega (arith, sum_both f g xs, sum_by-cons (λ y. f y + g y) x xs, sum_by-cons f x xs, sum_by-cons g x xs)

pub sum_nothing : {X : Type 0} (f : X → ℕ) → ((x : X) → f x ≡ 0) → (xs : List X) → sum_by f xs ≡ 0
sum_nothing f none [] = refl
sum_nothing f none (x ∷ xs) = omega (arith, none x, sum_nothing f none xs, sum_by-cons f x xs)

abbrev one_if : Bool → ℕ
one_if b = cond b 1 0

none_picked : {X : Type 0} (p : X → Bool) (y : ℕ) (xs : List X) → count_by p xs ≡ 0 → sum_by (λ x. cond (p x) y 0) xs ≡ 0
none_picked p y [] none = refl
none_picked p y (x ∷ xs) none = elim (cases_Bool (p x)) [
  | inl pass ↦
      let first : one_if (p x) ≡ 1 = ap one_if pass in
      absurd (omega (arith, none, first, sum_by-cons (λ z. one_if (p z)) x xs))
  | inr fails ↦
      let first : one_if (p x) ≡ 0 = ap one_if fails in
      let this : cond (p x) y 0 ≡ 0 = ap (λ b. cond b y 0) fails in
      let rest = none_picked p y xs (omega (arith, none, first, sum_by-cons (λ z. one_if (p z)) x xs)) in
      omega (arith, this, rest, sum_by-cons (λ z. cond (p z) y 0) x xs)
]

-- what is picked once counts once
pub once_picked : {X : Type 0} (p : X → Bool) (y : ℕ) (xs : List X) → count_by p xs ≡ 1 → sum_by (λ x. cond (p x) y 0) xs ≡ y
once_picked p y [] once = absurd (omega (arith, once))
once_picked p y (x ∷ xs) once = elim (cases_Bool (p x)) [
  | inl pass ↦
      let first : one_if (p x) ≡ 1 = ap one_if pass in
      let this : cond (p x) y 0 ≡ y = ap (λ b. cond b y 0) pass in
      let rest = none_picked p y xs (omega (arith, once, first, sum_by-cons (λ z. one_if (p z)) x xs)) in
      omega (arith, this, rest, sum_by-cons (λ z. cond (p z) y 0) x xs)
  | inr fails ↦
      let first : one_if (p x) ≡ 0 = ap one_if fails in
      let this : cond (p x) y 0 ≡ 0 = ap (λ b. cond b y 0) fails in
      let rest = once_picked p y xs (omega (arith, once, first, sum_by-cons (λ z. one_if (p z)) x xs)) in
      omega (arith, this, rest, sum_by-cons (λ z. cond (p z) y 0) x xs)
]

-- no term counts
pub sum_none : (f : ℕ → ℕ) (a n : ℕ) → ((m : ℕ) → a ≤ m → m < a + n → f m ≡ 0) → sum_by f (range_with_len a n) ≡ 0
sum_none f a zero h = refl
sum_none f a (suc n) h =
    let first : f a ≡ 0 = h a (omega arith) (omega arith) in
    let rest : sum_by f (range_with_len (a + 1) n) ≡ 0 = sum_none f (a + 1) n (λ m low high. h m (omega arith) (omega arith)) in
    omega (arith, first, rest, sum_by-cons f a (range_with_len (a + 1) n))

-- one term alone counts
pub sum_one : (f : ℕ → ℕ) (x a n : ℕ) → a ≤ x → x < a + n → ((m : ℕ) → a ≤ m → m < a + n → (m ≡ x → ⊥) → f m ≡ 0)
    → sum_by f (range_with_len a n) ≡ f x
sum_one f x a zero from to h = absurd (omega arith)
sum_one f x a (suc n) from to h = elim (cases_eq a x) [
  | inl same ↦
      let rest : sum_by f (range_with_len (a + 1) n) ≡ 0 = sum_none f (a + 1) n (λ m low high. h m (omega arith) (omega arith) (λ e. omega arith)) in
      let first : f a ≡ f x = ap f same in
      omega (arith, first, rest, sum_by-cons f a (range_with_len (a + 1) n))
  | inr other ↦
      let first : f a ≡ 0 = h a (omega arith) (omega arith) other in
      let rest : sum_by f (range_with_len (a + 1) n) ≡ f x
      = sum_one f x (a + 1) n (omega arith) (omega arith) (λ m low high e. h m (omega arith) (omega arith) e) in
      omega (arith, first, rest, sum_by-cons f a (range_with_len (a + 1) n))
]

-- the terms of those messages that are in the affinity c
abbrev pub part_of : (ℕ → ℕ) → (ℕ → ℕ) → List ℕ → ℕ → ℕ
part_of affinity term messages c = sum_by (λ m. cond (affinity m == c) (term m) 0) messages

-- summed over the affinities that are meant, they are the terms of the messages whose affinities are meant
pub sum_of_parts : (affinity term : ℕ → ℕ) (is_meant : ℕ → Bool) (n : ℕ) → ((m : ℕ) → affinity m < n) → (messages : List ℕ)
    → sum_by (λ c. cond (is_meant c) (part_of affinity term messages c) 0) (range_with_len 0 n)
    ≡ sum_by (λ m. cond (is_meant (affinity m)) (term m) 0) messages
sum_of_parts affinity term is_meant n within [] = sum_none (λ c. cond (is_meant c) 0 0) 0 n (λ c low high. grind arith)
sum_of_parts affinity term is_meant n within (m ∷ rest) =
    let this : ℕ → ℕ = λ c. cond (is_meant c) (cond (affinity m == c) (term m) 0) 0 in
    let others : ℕ → ℕ = λ c. cond (is_meant c) (part_of affinity term rest c) 0 in
    let both = sum_same (λ c. cond (is_meant c) (part_of affinity term (m ∷ rest) c) 0) (λ c. this c + others c) 0 n
    (λ c low high.
    let cons = sum_by-cons (λ x. cond (affinity x == c) (term x) 0) m rest in
    grind (arith, cons)) in
    let one : sum_by this (range_with_len 0 n) ≡ this (affinity m)
    = sum_one this (affinity m) 0 n (omega arith) (omega (arith, within m)) (λ c low high other. grind (arith, nat_tests, other)) in
    let at : this (affinity m) ≡ cond (is_meant (affinity m)) (term m) 0 = grind (arith, nat_tests) in
    omega (
      arith,
      both,
      sum_both this others (range_with_len 0 n),
      one,
      at,
      sum_of_parts affinity term is_meant n within rest,
      sum_by-cons (λ x. cond (is_meant (affinity x)) (term x) 0) m rest,
    )
