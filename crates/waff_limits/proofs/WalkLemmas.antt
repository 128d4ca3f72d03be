-- Edges in the order of their places, one after another.
use Rattle.std.proofs.Common.{◌≡◌, inl, inr, ℕ, zero, suc, ◌+◌, ◌-◌, ◌*◌, ◌<◌, ◌≤◌, nat_lt, List, length, take, get_or, sum_by, refl, sym, ◌∙◌, ap, subst, arith}
use Rattle.std.specs.List.Sorted.{IsNonDecreasingBy}
use Rattle.std.proofs.lemmas.Bool.{cases_Bool, ltb-false, ltb-true}
use Rattle.std.proofs.lemmas.List.{take_all}
use Rattle.std.proofs.lemmas.List.Sums.{sum_by_more}
use Rattle.waff_limits.specs.Edges.{AreSmall, IsMostAt, begun_at, ended_at, if_before, sum_before}
use Rattle.waff_limits.specs.declared.edges.Edge.{Edge}
use Rattle.waff_limits.specs.declared.edges.Most.{Most}
use Rattle.waff_limits.proofs.EdgeLemmas.{begins_of, ends_of, is_before, not_before}

abbrev pub no_edge : Edge
no_edge = record { place = 0; begins = 0; ends = 0 }

-- the edge at an index, from 0
abbrev pub edge_at : List Edge → ℕ → Edge
edge_at edges i = get_or edges i no_edge

-- what has begun there and has not ended
abbrev pub ticks_at : List Edge → ℕ → ℕ
ticks_at edges place = begun_at edges place - ended_at edges place

-- what is before a place, where the first i edges are
module _ (amount : Edge → ℕ) (edges : List Edge) (place : ℕ) where
  taken : (i : ℕ) → i ≤ length edges → ((m : ℕ) → m < i → (edge_at edges m).place < place)
      → sum_by (if_before amount place) (take i edges) ≡ sum_by amount (take i edges)
  taken zero short below = refl
  taken (suc i) short below =
      let next : suc i ≡ i + 1 = omega arith in
      let there : i < length edges = omega (arith, short) in
      let rest = taken i (omega (arith, short)) (λ m lt. below m (omega (arith, lt))) in
      let one = is_before amount place (edge_at edges i) (below i (omega arith)) in
      let counted = sum_by_more (if_before amount place) edges i no_edge there in
      let all = sum_by_more amount edges i no_edge there in
      ap (λ k. sum_by (if_before amount place) (take k edges)) next
      ∙ (let same : sum_by (if_before amount place) (take (i + 1) edges) ≡ sum_by amount (take (i + 1) edges) = omega (arith, rest, one, counted, all) in same)
      ∙ sym (ap (λ k. sum_by amount (take k edges)) next)

  beyond : (i n : ℕ) → i + n ≤ length edges → ((m : ℕ) → m < i → (edge_at edges m).place < place)
      → ((m : ℕ) → i ≤ m → m < length edges → place ≤ (edge_at edges m).place) → sum_by (if_before amount place) (take (i + n) edges) ≡ sum_by amount (take i edges)
  beyond i zero short below over =
      let same : i + 0 ≡ i = omega arith in
      ap (λ k. sum_by (if_before amount place) (take k edges)) same ∙ taken i (omega (arith, short)) below
  beyond i (suc n) short below over =
      let next : i + suc n ≡ i + n + 1 = omega arith in
      let there : i + n < length edges = omega (arith, short) in
      let rest = beyond i n (omega (arith, short)) below over in
      let one = not_before amount place (edge_at edges (i + n)) (over (i + n) (omega arith) there) in
      let counted = sum_by_more (if_before amount place) edges (i + n) no_edge there in
      ap (λ k. sum_by (if_before amount place) (take k edges)) next
      ∙ (let same : sum_by (if_before amount place) (take (i + n + 1) edges) ≡ sum_by amount (take i edges) = omega (arith, rest, one, counted) in same)

  passed : (i : ℕ) → i ≤ length edges → ((m : ℕ) → m < i → (edge_at edges m).place < place)
      → ((m : ℕ) → i ≤ m → m < length edges → place ≤ (edge_at edges m).place) → sum_before amount edges place ≡ sum_by amount (take i edges)
  passed i short below over =
      let rest : ℕ = length edges - i in
      let all : take (i + (length edges - i)) edges ≡ edges = take_all (i + (length edges - i)) edges (omega (arith, short)) in
      ap (sum_by (if_before amount place)) (sym all) ∙ beyond i (length edges - i) (omega (arith, short)) below over

-- what is known after the first i edges: what has begun and what ends by then, what has ended before the place of the next, and the first
-- place of most ticks before that
pub record IsWalked (edges : List Edge) (i begun ended ending : ℕ) (found : Most) : Type 0 where
  pub begun_is : begun ≡ sum_by begins_of (take i edges)
  pub ending_is : ending ≡ sum_by ends_of (take i edges)
  pub ended_is : i < length edges → ended ≡ ended_at edges (edge_at edges i).place
  pub ended_small : ended ≤ ending
  pub begun_small : begun ≤ 4294967296 * i
  pub ending_small : ending ≤ 4294967296 * i
  pub greatest : (place : ℕ) → (i < length edges → place < (edge_at edges i).place) → ticks_at edges place ≤ found.ticks
  pub at : 0 < found.ticks → ticks_at edges found.place ≡ found.ticks
  pub first : (place : ℕ) → place < found.place → ticks_at edges place < found.ticks

module _ (edges : List Edge) (rising : IsNonDecreasingBy (λ (e : Edge). e.place) edges) where
  rises : (i j : ℕ) → i ≤ j → j < length edges → (edge_at edges i).place ≤ (edge_at edges j).place
  rises i j le lt = rising i j no_edge le lt

  pub starts : IsWalked edges 0 0 0 0 (record { place = 0; ticks = 0 })
  starts = record {
    begun_is = refl;
    ending_is = refl;
    ended_is = λ some. sym (passed ends_of edges (edge_at edges 0).place 0 (omega arith) (λ m lt. absurd (omega (arith, lt))) (λ m from to. rises 0 m from to));
    ended_small = omega arith;
    begun_small = omega arith;
    ending_small = omega arith;
    greatest = λ place before. none place before;
    at = λ some. absurd (omega (arith, some));
    first = λ place lt. absurd (omega (arith, lt));
  }
    where
      none : (place : ℕ) → (0 < length edges → place < (edge_at edges 0).place) → ticks_at edges place ≤ 0
      none place before =
          let begun : begun_at edges place ≡ 0 = passed begins_of edges (place + 1) 0 (omega arith) (λ m lt. absurd (omega (arith, lt)))
          (λ m from to. let first = before (omega (arith, to)) in omega (arith, first, rises 0 m from to)) in
          omega (arith, begun)

  module _ (i begun ended ending : ℕ) (found : Most) (walked : IsWalked edges i begun ended ending found) (there : i < length edges)
      (begins ends : ℕ) (is_begins : begins ≡ (edge_at edges i).begins) (is_ends : ends ≡ (edge_at edges i).ends)
      (small : begins < 4294967296) (few : ends < 4294967296) where
    abbrev here : Edge
    here = edge_at edges i

    begun_more : begun + begins ≡ sum_by begins_of (take (i + 1) edges)
    begun_more = let more = sum_by_more begins_of edges i no_edge there in omega (arith, more, walked.begun_is, is_begins)

    ending_more : ending + ends ≡ sum_by ends_of (take (i + 1) edges)
    ending_more = let more = sum_by_more ends_of edges i no_edge there in omega (arith, more, walked.ending_is, is_ends)

    -- the next edge is at the same place
    pub goes_on : i + 1 < length edges → (edge_at edges (i + 1)).place ≤ here.place → IsWalked edges (i + 1) (begun + begins) ended (ending + ends) found
    goes_on next le =
        let same : here.place ≡ (edge_at edges (i + 1)).place = omega (arith, le, rises i (i + 1) (omega arith) next) in
        record {
          begun_is = begun_more;
          ending_is = ending_more;
          ended_is = λ more. walked.ended_is there ∙ ap (ended_at edges) same;
          ended_small = omega (arith, walked.ended_small);
          begun_small = omega (arith, walked.begun_small, small);
          ending_small = omega (arith, walked.ending_small, few);
          greatest = λ place before. walked.greatest place (λ more. let lt = before next in omega (arith, lt, same));
          at = walked.at;
          first = walked.first;
        }

    module _ (last : i + 1 < length edges → here.place < (edge_at edges (i + 1)).place) where
      -- what edges up to this one are before a later place
      before_later : (place m : ℕ) → here.place < place → m < i + 1 → (edge_at edges m).place < place
      before_later place m lt to = let le = rises m i (omega (arith, to)) there in omega (arith, le, lt)

      -- and what the others are not before
      not_before_next : (place m : ℕ) → (i + 1 < length edges → place ≤ (edge_at edges (i + 1)).place) → i + 1 ≤ m → m < length edges → place ≤ (edge_at edges m).place
      not_before_next place m le from to = let next = le (omega (arith, from, to)) in omega (arith, next, rises (i + 1) m from to)

      -- from here to the next edge as much has begun
      begun_here : (place : ℕ) → here.place ≤ place → (i + 1 < length edges → place < (edge_at edges (i + 1)).place) → begun_at edges place ≡ begun + begins
      begun_here place le before =
          passed begins_of edges (place + 1) (i + 1) (omega (arith, there)) (λ m to. before_later (place + 1) m (omega (arith, le)) to)
          (λ m from to. not_before_next (place + 1) m (λ more. let lt = before more in omega (arith, lt)) from to)
          ∙ sym begun_more

      -- and beyond this place as much has ended
      ended_beyond : (place : ℕ) → here.place < place → (i + 1 < length edges → place ≤ (edge_at edges (i + 1)).place) → ended_at edges place ≡ ending + ends
      ended_beyond place lt le =
          passed ends_of edges place (i + 1) (omega (arith, there)) (λ m to. before_later place m lt to) (λ m from to. not_before_next place m le from to)
          ∙ sym ending_more

      pub ticks_here : ticks_at edges here.place ≡ begun + begins - ended
      ticks_here =
          let more = begun_here here.place (omega arith) last in
          let less = walked.ended_is there in
          omega (arith, more, less)

      pub is_small : AreSmall edges → (ended ≤ begun + begins) × (begun + begins - ended < 18446744073709551616)
      is_small all =
          let more = begun_here here.place (omega arith) last in
          let less = walked.ended_is there in
          (omega (arith, more, less, all.ended here.place), omega (arith, more, less, all.few here.place))

      -- from here to the next edge there are no more ticks than here
      at_most : (place : ℕ) → here.place ≤ place → (i + 1 < length edges → place < (edge_at edges (i + 1)).place) → ticks_at edges place ≤ begun + begins - ended
      at_most place le before = elim (cases_Bool (nat_lt here.place place)) [
        | inl held ↦
            let lt = ltb-true here.place place held in
            let more = begun_here place le before in
            let less = ended_beyond place lt (λ next. let to = before next in omega (arith, to)) in
            omega (arith, more, less, walked.ended_small)
        | inr failed ↦
            let same : here.place ≡ place = omega (arith, le, ltb-false here.place place failed) in
            let equal : ticks_at edges place ≡ begun + begins - ended = sym (ap (ticks_at edges) same) ∙ ticks_here in
            omega (arith, equal)
      ]

      -- the next edge, if there is one, is at a later place
      pub goes_over : (now : Most) → (found.ticks < begun + begins - ended → now ≡ record { place = here.place; ticks = begun + begins - ended })
          → (begun + begins - ended ≤ found.ticks → now ≡ found) → IsWalked edges (i + 1) (begun + begins) (ending + ends) (ending + ends) now
      goes_over now longer other = elim (cases_Bool (nat_lt found.ticks (begun + begins - ended))) [
        | inl held ↦
            let lt = ltb-true found.ticks (begun + begins - ended) held in
            subst (λ m. IsWalked edges (i + 1) (begun + begins) (ending + ends) (ending + ends) m) (sym (longer lt)) (record {
              begun_is = begun_more;
              ending_is = ending_more;
              ended_is = λ next. ended_next next;
              ended_small = omega arith;
              begun_small = omega (arith, walked.begun_small, small);
              ending_small = omega (arith, walked.ending_small, few);
              greatest = λ place before. elim (cases_Bool (nat_lt place here.place)) [
                | inl earlier ↦ (let most = walked.greatest place (λ _. ltb-true place here.place earlier) in let all : ticks_at edges place ≤ begun + begins - ended = omega (arith, most, lt) in all)
                | inr not ↦ at_most place (ltb-false place here.place not) before
              ];
              at = λ some. ticks_here;
              first = λ place earlier. (let most = walked.greatest place (λ _. earlier) in let all : ticks_at edges place < begun + begins - ended = omega (arith, most, lt) in all);
            })
        | inr failed ↦
            let le = ltb-false found.ticks (begun + begins - ended) failed in
            subst (λ m. IsWalked edges (i + 1) (begun + begins) (ending + ends) (ending + ends) m) (sym (other le)) (record {
              begun_is = begun_more;
              ending_is = ending_more;
              ended_is = λ next. ended_next next;
              ended_small = omega arith;
              begun_small = omega (arith, walked.begun_small, small);
              ending_small = omega (arith, walked.ending_small, few);
              greatest = λ place before. elim (cases_Bool (nat_lt place here.place)) [
                | inl earlier ↦ walked.greatest place (λ _. ltb-true place here.place earlier)
                | inr not ↦ (let most = at_most place (ltb-false place here.place not) before in let all : ticks_at edges place ≤ found.ticks = omega (arith, most, le) in all)
              ];
              at = walked.at;
              first = walked.first;
            })
      ]
        where
          ended_next : i + 1 < length edges → ending + ends ≡ ended_at edges (edge_at edges (i + 1)).place
          ended_next next = sym (ended_beyond (edge_at edges (i + 1)).place (last next) (λ _. (let le : (edge_at edges (i + 1)).place ≤ (edge_at edges (i + 1)).place = omega arith in le)))

-- after all edges it is the first place of all
pub is_most_at : (edges : List Edge) (i begun ended ending : ℕ) (found : Most) → IsWalked edges i begun ended ending found → length edges ≤ i
    → IsMostAt (ticks_at edges) found
is_most_at edges i begun ended ending found walked over = record {
  greatest = λ place. walked.greatest place (λ lt. absurd (omega (arith, lt, over)));
  at = walked.at;
  first = walked.first;
}
