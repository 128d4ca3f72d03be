-- What messages await, one list behind another, and lists that are walked backwards.
use Rattle.std.proofs.Common.{◌≡◌, ℕ, zero, suc, ◌+◌, ◌<◌, ◌≤◌, ◌⊎◌, inl, inr, max, All, Option, Some, List, [], ◌∷◌, ◌++◌, length, get_or, drop, eqb, cond, ◌-◌, arith, refl, ◌∙◌, ap}
use Rattle.std.proofs.Math.Seq.{drop-cons}
use Rattle.std.proofs.lemmas.Bool.{cond_both}
use Rattle.std.proofs.lemmas.List.Elements.{All-head, All-tail}
use Rattle.waff_plan.specs.Latest.{later_of}
use Rattle.waff_plan.specs.Links.{held_by}
use Rattle.waff_plan.specs.Work.{Await, IsAwaited, gap_after, issue_after}
use Rattle.waff_plan.specs.declared.latest.Latest.{Latest}

-- a message of either
pub awaited_either : (xs ys : List Await) (i : ℕ) → IsAwaited (xs ++ ys) i → IsAwaited xs i ⊎ IsAwaited ys i
awaited_either [] ys i awaited = inr awaited
awaited_either (a ∷ xs) ys i (inl same) = inl (inl same)
awaited_either (a ∷ xs) ys i (inr more) = elim (awaited_either xs ys i more) [
  | inl first ↦ inl (inr first)
  | inr second ↦ inr second
]

pub awaited_left : (xs ys : List Await) (i : ℕ) → IsAwaited xs i → IsAwaited (xs ++ ys) i
awaited_left [] ys i never = absurd never
awaited_left (a ∷ xs) ys i (inl same) = inl same
awaited_left (a ∷ xs) ys i (inr more) = inr (awaited_left xs ys i more)

pub awaited_right : (xs ys : List Await) (i : ℕ) → IsAwaited ys i → IsAwaited (xs ++ ys) i
awaited_right [] ys i awaited = awaited
awaited_right (a ∷ xs) ys i awaited = inr (awaited_right xs ys i awaited)

-- a list that is not empty has one
pub some_awaited : (xs : List Await) → (xs ≡ [] → ⊥) → (i : ℕ) × IsAwaited xs i
some_awaited [] some = absurd (some refl)
some_awaited (a ∷ xs) some = (a.message, inl refl)

-- the message at a place of a list is awaited
pub awaited_at : (xs : List Await) (k : ℕ) (d : Await) → k < length xs → IsAwaited xs (get_or xs k d).message
awaited_at [] k d within = absurd (omega (arith, within))
awaited_at (a ∷ xs) zero d within = inl refl
awaited_at (a ∷ xs) (suc k) d within = inr (awaited_at xs k d (omega (arith, within)))

-- what is awaited stands in the list
pub awaited_stands : (P : Await → Type 0) (xs : List Await) (i : ℕ) → All P xs → IsAwaited xs i → (a : Await) × (P a × (a.message ≡ i))
awaited_stands P [] i all never = absurd never
awaited_stands P (a ∷ xs) i all (inl same) = (a, (All-head P a xs all, same))
awaited_stands P (a ∷ xs) i all (inr more) = awaited_stands P xs i (All-tail P a xs all) more

-- the issue, the gap and what holds back longest, by one list and then the other
pub issue_after-append : (finish : ℕ → ℕ) (floor : ℕ) (xs ys : List Await) → issue_after finish floor (xs ++ ys) ≡ issue_after finish (issue_after finish floor ys) xs
issue_after-append finish floor [] ys = refl
issue_after-append finish floor (a ∷ xs) ys = ap (max (finish a.message + a.gap)) (issue_after-append finish floor xs ys)

pub gap_after-append : (i : ℕ) (xs ys : List Await) → gap_after i (xs ++ ys) ≡ max (gap_after i xs) (gap_after i ys)
gap_after-append i [] ys = omega arith
gap_after-append i (a ∷ xs) ys = omega (arith, gap_after-append i xs ys)

-- where no gap is more
pub gap_within_all : (t i : ℕ) (xs : List Await) → All (λ a. a.gap ≤ t) xs → gap_after i xs ≤ t
gap_within_all t i [] all = omega arith
gap_within_all t i (a ∷ xs) all =
    let more = gap_within_all t i xs (All-tail (λ (b : Await). b.gap ≤ t) a xs all) in
    let first : a.gap ≤ t = All-head (λ (b : Await). b.gap ≤ t) a xs all in
    cond_both (eqb a.message i) a.gap 0 (λ gap. max gap (gap_after i xs) ≤ t) (λ same. omega (arith, first, more)) (λ other. omega (arith, more))

pub held_by-append : (finish : ℕ → ℕ) (latest : Option Latest) (xs ys : List Await) → held_by finish latest (xs ++ ys) ≡ held_by finish (held_by finish latest ys) xs
held_by-append finish latest [] ys = refl
held_by-append finish latest (a ∷ xs) ys =
    ap (λ held. later_of held (Some (record { finish = finish a.message + a.gap; number = a.message }))) (held_by-append finish latest xs ys)

-- a list from its n-th place on, for walks from its end
module _ (xs : List Await) (n : ℕ) (d : Await) (from : 1 ≤ n) (to : n ≤ length xs) where
  abbrev here : Await
  here = get_or xs (n - 1) d

  dropped : drop (n - 1) xs ≡ here ∷ drop n xs
  dropped = drop-cons xs (n - 1) d (omega (arith, from, to)) ∙ ap (λ k. here ∷ drop k xs) (let next : suc (n - 1) ≡ n = omega (arith, from) in next)

  pub issue_from : (finish : ℕ → ℕ) (floor : ℕ)
      → issue_after finish floor (drop (n - 1) xs) ≡ max (finish here.message + here.gap) (issue_after finish floor (drop n xs))
  issue_from finish floor = ap (issue_after finish floor) dropped

  pub gap_from : (i : ℕ) → gap_after i (drop (n - 1) xs) ≡ max (cond (eqb here.message i) here.gap 0) (gap_after i (drop n xs))
  gap_from i = ap (gap_after i) dropped

  pub held_from : (finish : ℕ → ℕ) (latest : Option Latest)
      → held_by finish latest (drop (n - 1) xs) ≡ later_of (held_by finish latest (drop n xs)) (Some (record { finish = finish here.message + here.gap; number = here.message }))
  held_from finish latest = ap (held_by finish latest) dropped
