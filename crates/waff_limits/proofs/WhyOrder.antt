-- Rows of lifted messages: sorted by their costs, those of as much cost left in their order, they are one list and leave none out.
use Rattle.std.proofs.Common.{◌≡◌, ℕ, ◌+◌, ◌<◌, inl, inr, cond, Bool, List, [], ◌∷◌, ◌++◌, Contains, length, get_or, filter, sum_by, arith, refl, sym, ◌∙◌, ap, subst}
use Rattle.std.specs.Cmp.{IsEquivalence}
use Rattle.std.specs.List.{AllPairs}
use Rattle.std.specs.List.Sorted.{IsPermutation, IsSortedBy, IsStableBy}
use Rattle.std.proofs.lemmas.List.{get_or-map, length-map, length_push}
use Rattle.std.proofs.lemmas.List.Sorted.{Contains-permutation, IsPermutation-sym, sum_by-IsPermutation}
use Rattle.std.proofs.lemmas.List.Sums.{sum_by-cons, sum_by_push}
use Rattle.waff_model.specs.Unique.{AtMostOne}
use Rattle.waff_figures.specs.Groups.{firsts_by}
use Rattle.waff_figures.proofs.GroupLemmas.{each_once, firsts_add_up, firsts_in_order, sum_map}
use Rattle.waff_figures.proofs.Lists.{same_order}
use Rattle.waff_figures.proofs.Falling.{falls, is_above}
use Rattle.waff_limits.specs.LiftedLaws.{AreTold}
use Rattle.waff_limits.specs.WhyRows.{AreRows, StandsBefore, row_of, row_over, row_with, rows_by}
use Rattle.waff_limits.specs.declared.lifted.Lift.{Lift}
use Rattle.waff_limits.specs.declared.why_rows.Row.{Row}

abbrev Comes : Lift → Lift → Type 0
Comes one other = one.message < other.message

abbrev Starts : Row → Row → Type 0
Starts one other = Comes one.first other.first

-- a row takes one lift more
abbrev made : Lift → ℕ → ℕ → Row
made first messages cost = record { first = first; messages = messages; cost = cost }

pub row_more : (ls : List Lift) (first l : Lift) → row_over (ls ++ l ∷ []) first ≡ row_with (row_over ls first) l
row_more ls first l =
    let cost_of : Lift → ℕ = λ x. x.cost in
    ap (λ n. made first n (sum_by cost_of (ls ++ l ∷ []))) (length_push ls l)
    ∙ ap (made first (length ls + 1)) (sum_by_push cost_of ls l)

-- whether the one row costs more
abbrev pub costs_more : Row → Row → Bool
costs_more = is_above (λ (row : Row). row.cost)

module _ (alike : Lift → Lift → Bool) (ls : List Lift) where
  -- the rows stand in the order of their first messages
  rows_in_order : AllPairs Comes ls → AllPairs Starts (rows_by alike ls)
  rows_in_order order i j d less low =
      let firsts = firsts_by alike ls in
      let long = length-map firsts (row_of alike ls) in
      let at : (k : ℕ) → k < length firsts → (get_or (rows_by alike ls) k d).first ≡ get_or firsts k d.first
      = λ k inside. ap (λ (r : Row). r.first) (get_or-map (row_of alike ls) firsts k d.first d inside) in
      let here : j < length firsts = omega (arith, low, long) in
      subst (λ v. Comes v (get_or (rows_by alike ls) j d).first) (sym (at i (omega (arith, less, here))))
      (subst (Comes (get_or firsts i d.first)) (sym (at j here)) (firsts_in_order alike Comes ls order i j d.first less here))

  pub sorted_rows : (xs ys : List Row) → xs ≡ rows_by alike ls → AllPairs Comes ls
      → IsPermutation xs ys → IsSortedBy costs_more ys → IsStableBy costs_more xs ys → AreRows alike ls ys
  sorted_rows xs ys are first moved sorted stable = record {
    are = subst (λ l. IsPermutation l ys) are moved;
    order = falls (λ (row : Row). row.cost) Starts xs ys (subst (AllPairs Starts) (sym are) (rows_in_order first)) sorted stable;
  }

one_stands_before : (r s : Row) → StandsBefore r s → StandsBefore s r → ⊥
one_stands_before r s (inl more) (inl less) = omega (arith, more, less)
one_stands_before r s (inl more) (inr same) = omega (arith, more, same.0)
one_stands_before r s (inr same) (inl more) = omega (arith, more, same.0)
one_stands_before r s (inr same) (inr other) = omega (arith, same.1, other.1)

-- the rows are one list
pub rows_are_one : (alike : Lift → Lift → Bool) (ls : List Lift) → AtMostOne (AreRows alike ls)
rows_are_one alike ls rows other are other_are =
    let into : (one another : List Row) → AreRows alike ls one → AreRows alike ls another → (row : Row) → Contains one row → Contains another row
    = λ one another p q row has.
    Contains-permutation (rows_by alike ls) another row q.are
    (Contains-permutation one (rows_by alike ls) row (IsPermutation-sym (rows_by alike ls) one p.are) has) in
    same_order StandsBefore one_stands_before rows other are.order other_are.order (into rows other are other_are) (into other rows other_are are)

-- they leave no lift out
count_lifts : (ls : List Lift) → sum_by (λ l. 1) ls ≡ length ls
count_lifts [] = refl
count_lifts (l ∷ ls) = omega (arith, count_lifts ls, sum_by-cons (λ (x : Lift). 1) l ls)

pub are_told : (alike : Lift → Lift → Bool) (ls : List Lift) (rows : List Row) → IsEquivalence alike → AreRows alike ls rows → AreTold alike ls rows
are_told alike ls rows laws are = record {
  once = λ k d low.
      let told : Row → ℕ = λ row. cond (alike row.first (get_or ls k d)) 1 0 in
      sum_by-IsPermutation told (rows_by alike ls) rows are.are ∙ sum_map told (row_of alike ls) (firsts_by alike ls) ∙ each_once alike laws ls k d low;
  messages =
      sum_by-IsPermutation (λ (row : Row). row.messages) (rows_by alike ls) rows are.are
      ∙ sum_map (λ (row : Row). row.messages) (row_of alike ls) (firsts_by alike ls)
      ∙ counted (firsts_by alike ls)
      ∙ firsts_add_up alike laws (λ l. 1) ls
      ∙ count_lifts ls;
  costs =
      sum_by-IsPermutation (λ (row : Row). row.cost) (rows_by alike ls) rows are.are
      ∙ sum_map (λ (row : Row). row.cost) (row_of alike ls) (firsts_by alike ls)
      ∙ firsts_add_up alike laws (λ l. l.cost) ls;
}
  where
    counted : (firsts : List Lift) → sum_by (λ first. length (filter (alike first) ls)) firsts ≡ sum_by (λ first. sum_by (λ (l : Lift). 1) (filter (alike first) ls)) firsts
    counted [] = refl
    counted (f ∷ fs) =
        let cons = sum_by-cons (λ first. length (filter (alike first) ls)) f fs in
        let other = sum_by-cons (λ first. sum_by (λ (l : Lift). 1) (filter (alike first) ls)) f fs in
        omega (arith, cons, other, counted fs, count_lifts (filter (alike f) ls))
