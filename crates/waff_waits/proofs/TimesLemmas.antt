-- How often a number is listed, and sums to which some or no elements add.
use Rattle.std.proofs.Common.{◌≡◌, ◌≢◌, ℕ, ◌+◌, ◌<◌, ◌≤◌, Bool, true, false, cond, nat_eq, List, ◌∷◌, length, get_or, take, sum_by, count_by, Contains, arith, refl, sym, subst}
use Rattle.std.proofs.lemmas.Bool.{cond-true, cond-false, eq-eqb, ne_eqb}
use Rattle.std.proofs.lemmas.List.Elements.{All-weaker, All-contains_itself}
use Rattle.std.proofs.lemmas.List.Sums.{sum_by-cons, sum_by-le, get_or-le-sum_by, count_by_more_yes, count_by_more_no}
use Rattle.waff_waits.specs.Times.{times}

-- where no element adds to a sum, it is 0
pub sum_none : {X : Type 0} (f : X → ℕ) (xs : List X) → ((x : X) → Contains xs x → f x ≡ 0) → sum_by f xs ≡ 0
sum_none f xs h =
    let none = sum_by-le f 0 xs (All-weaker (Contains xs) (λ x. f x ≤ 0) (λ x there. let is : f x ≡ 0 = h x there in omega arith) xs (All-contains_itself xs)) in
    omega (arith, none)

-- an element adds its part
pub sum_some : {X : Type 0} (f : X → ℕ) (xs : List X) (x : X) → Contains xs x → f x ≤ sum_by f xs
sum_some f xs x there = subst (λ y. f y ≤ sum_by f xs) there.2 (get_or-le-sum_by f xs there.0 x there.1)

pub count_none : {X : Type 0} (p : X → Bool) (xs : List X) → ((x : X) → Contains xs x → p x ≡ false) → count_by p xs ≡ 0
count_none p xs h = sum_none (λ x. cond (p x) 1 0) xs (λ x there. cond-false (p x) 1 0 (h x there))

pub count_some : {X : Type 0} (p : X → Bool) (xs : List X) (x : X) → Contains xs x → p x ≡ true → 1 ≤ count_by p xs
count_some p xs x there is =
    omega (arith, cond-true {A = ℕ} (p x) 1 0 is, sum_some (λ y. cond (p y) 1 0) xs x there)

-- a message that is listed is listed once or more
pub times_some : (m : ℕ) (xs : List ℕ) → Contains xs m → 1 ≤ times m xs
times_some m xs there = count_some (λ x. nat_eq x m) xs m there (eq-eqb m m refl)

-- one that is not listed is listed no time
pub times_none : (m : ℕ) (xs : List ℕ) → (Contains xs m → ⊥) → times m xs ≡ 0
times_none m xs other = count_none (λ x. nat_eq x m) xs (λ x there. ne_eqb x m (λ same. other (subst (λ y. Contains xs y) same there)))

-- one message more is listed
pub times_cons_same : (xs : List ℕ) (m : ℕ) → times m (m ∷ xs) ≡ times m xs + 1
times_cons_same xs m =
    let one : cond {A = ℕ} (nat_eq m m) 1 0 ≡ 1 = cond-true (nat_eq m m) 1 0 (eq-eqb m m refl) in
    omega (arith, one, sum_by-cons (λ x. cond (nat_eq x m) 1 0) m xs)

pub times_cons_other : {m : ℕ} (xs : List ℕ) (x : ℕ) → x ≢ m → times x (m ∷ xs) ≡ times x xs
times_cons_other {m} xs x other =
    let none : cond {A = ℕ} (nat_eq m x) 1 0 ≡ 0 = cond-false (nat_eq m x) 1 0 (ne_eqb m x (λ same. other (sym same))) in
    omega (arith, none, sum_by-cons (λ y. cond (nat_eq y x) 1 0) m xs)

-- one place more of the list
pub times_here : (m : ℕ) (xs : List ℕ) (at d : ℕ) → at < length xs → get_or xs at d ≡ m → times m (take (at + 1) xs) ≡ times m (take at xs) + 1
times_here m xs at d inside is = count_by_more_yes (λ x. nat_eq x m) xs at d inside (eq-eqb (get_or xs at d) m is)

pub times_other : (m : ℕ) (xs : List ℕ) (at d : ℕ) → at < length xs → get_or xs at d ≢ m → times m (take (at + 1) xs) ≡ times m (take at xs)
times_other m xs at d inside other = count_by_more_no (λ x. nat_eq x m) xs at d inside (ne_eqb (get_or xs at d) m other)
