-- Of ends, places and numbers in order there is one list each.
use Rattle.std.proofs.Common.{◌≡◌, ◌⊎◌, ℕ, zero, suc, ◌<◌, ◌≤◌, List, [], ◌∷◌, Contains, get_or, inl, inr, refl, sym, ◌∙◌, ap, subst, arith}
use Rattle.std.specs.Cmp.{IsTotalOrder}
use Rattle.std.specs.List.{AllByRecursion}
use Rattle.std.specs.List.Sorted.{IsStrictlySortedBy}
use Rattle.std.specs.Ordering.{nat_cmp, ordering_reverse}
use Rattle.std.specs.declared.cmp.Ordering.{Ordering}
use Rattle.std.specs.declared.cmp.Ordering.TheVariants.{Less, Greater}
use Rattle.std.proofs.lemmas.Bool.{cases_lt}
use Rattle.std.proofs.lemmas.Cmp.{nat_cmp_total}
use Rattle.std.proofs.lemmas.List.{get_or_default, same_lists}
use Rattle.std.proofs.lemmas.List.Elements.{All-contains, All-from_recursion}
use Rattle.waff_model.specs.Unique.{AtMostOne}
use Rattle.waff_model.specs.declared.cell.Cell.{Cell}
use Rattle.waff_model.specs.declared.op.Op.{Op}
use Rattle.waff_run.specs.Calls.{AreOneCall}
use Rattle.waff_run.specs.Named.{AreEnds, IsEnd, ListsSpots, spot_cmp}
use Rattle.waff_run.specs.Places.{Placing}
use Rattle.waff_run.specs.Syncing.{ListsOnce}
use Rattle.waff_run.proofs.Listing.{spot_cmp_total}

-- an element is the first one or one of the others
first_or_later : {K : Type 0} (x : K) (xs : List K) (z : K) → Contains (x ∷ xs) z → (x ≡ z) ⊎ Contains xs z
first_or_later x xs z (zero, inside, is) = inl is
first_or_later x xs z (suc k, inside, is) = inr (k, omega (arith, inside), is)

first_is : {K : Type 0} (x : K) (xs : List K) → Contains (x ∷ xs) x
first_is x xs = (0, omega arith, refl)

later_is : {K : Type 0} (x : K) (xs : List K) (z : K) → Contains xs z → Contains (x ∷ xs) z
later_is x xs z (k, inside, is) = (suc k, omega (arith, inside), is)

module _ {K : Type 0} (c : K → K → Ordering) (total : IsTotalOrder c) where
  -- of two elements one alone is less
  one_way : (x y : K) → c x y ≡ Less → c y x ≡ Less → ⊥
  one_way x y less more = let same : Less ≡ Greater = sym less ∙ total.antisymm x y ∙ ap ordering_reverse more in cc same

  above : (x z : K) (xs : List K) → AllByRecursion (λ y. c x y ≡ Less) xs → Contains xs z → c x z ≡ Less
  above x z xs all has = All-contains (λ y. c x y ≡ Less) xs z (All-from_recursion (λ y. c x y ≡ Less) xs all) has

  heads : (x y : K) (xs ys : List K) → AllByRecursion (λ z. c x z ≡ Less) xs → AllByRecursion (λ z. c y z ≡ Less) ys
      → Contains (y ∷ ys) x → Contains (x ∷ xs) y → x ≡ y
  heads x y xs ys low high here there = elim (first_or_later y ys x here) [
    | inl same ↦ sym same
    | inr later ↦ elim (first_or_later x xs y there) [
      | inl same ↦ same
      | inr behind ↦ absurd (one_way x y (above x y xs low behind) (above y x ys high later))
    ]
  ]

  -- an element behind the first of one list is behind that of the other
  behind_first : (x y z : K) (xs ys : List K) → AllByRecursion (λ z. c x z ≡ Less) xs → x ≡ y → Contains xs z → Contains (y ∷ ys) z
      → Contains ys z
  behind_first x y z xs ys low same has there = elim (first_or_later y ys z there) [
    | inl is ↦
        let less : c x z ≡ Less = above x z xs low has in
        let equal : x ≡ z = same ∙ is in
        let more : c z x ≡ Less = subst (λ w. c z w ≡ Less) (sym equal) (subst (λ w. c w z ≡ Less) equal less) in
        absurd (one_way x z less more)
    | inr later ↦ later
  ]

  -- two lists in order that have the same elements
  pub in_one_order : (xs ys : List K) → IsStrictlySortedBy c xs → IsStrictlySortedBy c ys
      → ((z : K) → Contains xs z → Contains ys z) → ((z : K) → Contains ys z → Contains xs z) → xs ≡ ys
  unfolding IsStrictlySortedBy
  in_one_order [] [] low high there back = refl
  in_one_order [] (y ∷ ys) low high there back = let has = (back y (first_is y ys)).1 in absurd (omega (arith, has))
  in_one_order (x ∷ xs) [] low high there back = let has = (there x (first_is x xs)).1 in absurd (omega (arith, has))
  in_one_order (x ∷ xs) (y ∷ ys) low high there back =
      let same : x ≡ y = heads x y xs ys low.0 high.0 (there x (first_is x xs)) (back y (first_is y ys)) in
      let rest : xs ≡ ys
      = in_one_order xs ys low.1 high.1
      (λ z has. behind_first x y z xs ys low.0 same has (there z (later_is x xs z has)))
      (λ z has. behind_first y x z ys xs high.0 (sym same) has (back z (later_is y ys z has))) in
      ap (λ w. w ∷ xs) same ∙ ap (λ zs. y ∷ zs) rest

pub listed_one : (numbers : List ℕ) → AtMostOne (ListsOnce numbers)
listed_one numbers one other is also =
    in_one_order nat_cmp nat_cmp_total one other is.rising also.rising
    (λ n has. (also.each n).1 ((is.each n).0 has)) (λ n has. (is.each n).1 ((also.each n).0 has))

pub spots_one : (placing : Placing) (cells : List Cell) → AtMostOne (ListsSpots placing cells)
spots_one placing cells one other is also =
    in_one_order spot_cmp spot_cmp_total one other is.rising also.rising
    (λ spot has. (also.each spot).1 ((is.each spot).0 has)) (λ spot has. (is.each spot).1 ((also.each spot).0 has))

-- the end of one list is no further than that of the other
end_within : (placing : Placing) (cells : List Cell) (file end other : ℕ) → IsEnd placing cells file end → IsEnd placing cells file other → end ≤ other
end_within placing cells file end other is also = elim is.least [
  | inl none ↦ omega (arith, none)
  | inr has ↦ subst (λ n. n ≤ other) has.ends (also.enough has.cell has.named has.here)
]

pub ends_one : (placing : Placing) (cells : List Cell) → AtMostOne (AreEnds placing cells)
ends_one placing cells one other is also =
    let count = is.count in
    let same = also.count in
    same_lists one other (omega (arith, count, same))
    (λ file d inside.
    let first = is.each file inside in
    let second = also.each file (omega (arith, inside, count, same)) in
    let up : get_or one file 0 ≤ get_or other file 0 = end_within placing cells file _ _ first second in
    let down : get_or other file 0 ≤ get_or one file 0 = end_within placing cells file _ _ second first in
    let level : get_or one file 0 ≡ get_or other file 0 = omega (arith, up, down) in
    get_or_default one file d 0 inside ∙ level ∙ get_or_default other file 0 d (omega (arith, inside, count, same)))

-- a call of fewer operations would go on
no_further : (placing : Placing) (ops : List Op) (from one other : ℕ) → AreOneCall placing ops from one → AreOneCall placing ops from other → one < other → ⊥
no_further placing ops from one other is also fewer = is.most (also.each one is.some fewer)

pub call_one : (placing : Placing) (ops : List Op) (from : ℕ) → AtMostOne (AreOneCall placing ops from)
call_one placing ops from one other is also = elim (cases_lt one other) [
  | inl fewer ↦ absurd (no_further placing ops from one other is also fewer)
  | inr enough ↦ elim (cases_lt other one) [
    | inl fewer ↦ absurd (no_further placing ops from other one also is fewer)
    | inr less ↦ omega (arith, enough, less)
  ]
]
