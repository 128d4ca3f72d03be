-- The order of a plan that obeys is one in which a job can be handed out.
use Rattle.std.proofs.Common.{◌≡◌, ℕ, zero, suc, ◌+◌, ◌-◌, ◌<◌, ◌≤◌, inl, inr, List, [], ◌∷◌, ◌++◌, length, get_or, AllPairs, arith, refl, sym, ◌∙◌, ap, subst}
use Rattle.std.specs.List.{range_with_len}
use Rattle.std.proofs.lemmas.Bool.{cases_order}
use Rattle.std.proofs.lemmas.List.FromFn.{get_or-range_with_len, length-range_with_len}
use Rattle.std.proofs.lemmas.Option.{get_or_from_slice_get, same_Some, slice_get_read, slice_get_within}
use Rattle.waff_model.specs.Tree.{Node}
use Rattle.waff_assign.specs.Order.{IsOrdered}
use Rattle.waff_plan.specs.Obeys.{KeepsOrder}
use Rattle.waff_plan.specs.Work.{Work, IsNumber}
use Rattle.waff_order.specs.Needs.{AreNeeds}
use Rattle.waff_list.specs.Seats.{ComesBefore, IsInOrder}
use Rattle.waff_list.specs.Unique.{EachRuns}
use Rattle.waff_core.specs.Job.{IsOrder, StandsAt}
use Rattle.waff_assign.specs.Held.{Held}

module _ (start : ℕ → ℕ) (order : List ℕ) (sorted : AllPairs (ComesBefore start) order) where
  -- what stands first comes before what stands later
  stands_before : (place other i j : ℕ) → place < other → StandsAt order place i → StandsAt order other j → ComesBefore start i j
  stands_before place other i j less at there =
      let within : other < length order = slice_get_within order other j there in
      subst (λ x. ComesBefore start x j) (get_or_from_slice_get order place i i at)
      (subst (λ y. ComesBefore start (get_or order place i) y) (get_or_from_slice_get order other j i there)
      (sorted place other i less within))

not_itself : (start : ℕ → ℕ) (n : ℕ) → ComesBefore start n n → ⊥
not_itself start n (inl sooner) = omega arith
not_itself start n (inr (same, first)) = omega arith

-- what runs and has finished when another starts does not come after it
not_after : (start : ℕ → ℕ) (i j cost : ℕ) → 1 ≤ cost → start i + cost ≤ start j → ComesBefore start j i → ⊥
not_after start i j cost some done (inl sooner) = omega arith
not_after start i j cost some done (inr (same, first)) = omega arith

pub plan_order_is_order : (tree : List Node) (assigned : List Held) (needs : List (List ℕ)) (work : Work) (start : ℕ → ℕ) (order : List ℕ)
    → AreNeeds tree assigned needs → length assigned ≡ work.count → EachRuns work → KeepsOrder (IsOrdered tree assigned) work start
    → IsInOrder work start order → IsOrder needs order
plan_order_is_order tree assigned needs work start order are same runs keeps listed =
    let count : length needs ≡ work.count = are.count ∙ same in
    let before = stands_before start order listed.sorted in
    record {
      messages = λ place d within.
          let number = listed.messages place d within in (number.from, omega (arith, number.to, count));
      each = λ n from to.
          let has = listed.each n (record { from = from; to = omega (arith, to, count) }) in
          (has.0, slice_get_read order (length order) has.0 n refl has.1 (sym has.2));
      once = λ place other n at there. elim (cases_order place other) [
        | inl equal ↦ equal
        | inr (inl less) ↦ absurd (not_itself start n (before place other n n less at there))
        | inr (inr more) ↦ absurd (not_itself start n (before other place n n more there at))
      ];
      needed = λ i j place other need at there.
          let pair = are.ordered i j need in
          let earlier : i < j = pair.earlier in
          let number : IsNumber work i = record { from = pair.from; to = omega (arith, earlier, pair.to, same) } in
          elim (cases_order place other) [
            | inl equal ↦
                let one : i ≡ j = same_Some i j (sym at ∙ subst (λ p. StandsAt order p j) (sym equal) there) in
                absurd (omega (arith, earlier, one))
            | inr (inl less) ↦ less
            | inr (inr more) ↦
                absurd (not_after start i j (work.cost i) (runs i number) (keeps i j pair) (before other place j i more there at))
          ];
    }

-- one number more
numbers_on : (a n : ℕ) → range_with_len a (suc n) ≡ range_with_len a n ++ (a + n) ∷ []
numbers_on a zero = ap (λ x. x ∷ []) (let e : a ≡ a + 0 = omega arith in e)
numbers_on a (suc n) =
    ap (λ xs. a ∷ xs)
    (numbers_on (a + 1) n ∙ ap (λ x. range_with_len (a + 1) n ++ x ∷ []) (let e : a + 1 + n ≡ a + suc n = omega arith in e))

pub numbers_more : (k n : ℕ) → 1 + k ≡ n → range_with_len 1 (k + 1) ≡ range_with_len 1 k ++ n ∷ []
numbers_more k n is =
    ap (range_with_len 1) (let e : k + 1 ≡ suc k = omega arith in e) ∙ numbers_on 1 k ∙ ap (λ x. range_with_len 1 k ++ x ∷ []) is

-- in the order of the numbers message m stands at place m - 1
stands_by_number : (count place m : ℕ) → StandsAt (range_with_len 1 count) place m → (m ≡ 1 + place) × (place < count)
stands_by_number count place m at =
    let inside : place < length (range_with_len 1 count) = slice_get_within (range_with_len 1 count) place m at in
    let long = length-range_with_len 1 count in
    let within : place < count = omega (arith, inside, long) in
    (sym (get_or_from_slice_get (range_with_len 1 count) place m m at) ∙ get_or-range_with_len 1 count place m within, within)

-- and each need before its message
pub numbers_are_order : (tree : List Node) (assigned : List Held) (needs : List (List ℕ)) (count : ℕ) → AreNeeds tree assigned needs → length needs ≡ count
    → IsOrder needs (range_with_len 1 count)
numbers_are_order tree assigned needs count are same =
    let order = range_with_len 1 count in
    let long = length-range_with_len 1 count in
    record {
      messages = λ place d inside.
          let is : get_or order place d ≡ 1 + place = get_or-range_with_len 1 count place d (omega (arith, inside, long)) in
          (omega (arith, is), omega (arith, is, inside, long, same));
      each = λ n from to.
          let within : n - 1 < count = omega (arith, from, to, same) in
          let is : get_or order (n - 1) n ≡ n = let at = get_or-range_with_len 1 count (n - 1) n within in omega (arith, at, from) in
          (n - 1, slice_get_read order (length order) (n - 1) n refl (omega (arith, within, long)) (sym is));
      once = λ place other n at there.
          let one = stands_by_number count place n at in
          let two = stands_by_number count other n there in
          omega (arith, one.0, two.0);
      needed = λ i j place other need at there.
          let pair = are.ordered i j need in
          let earlier : i < j = pair.earlier in
          let one = stands_by_number count place i at in
          let two = stands_by_number count other j there in
          omega (arith, earlier, one.0, two.0);
    }
