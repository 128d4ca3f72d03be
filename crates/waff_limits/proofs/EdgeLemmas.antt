-- What edges tell of the cells.
use Rattle.std.proofs.Common.{◌≡◌, inl, inr, ℕ, ◌+◌, ◌-◌, ◌/◌, ◌%◌, ◌^◌, ◌<◌, ◌≤◌, true, false, nat_lt, List, [], ◌∷◌, ◌++◌, Option, Some, None, IsPermutation, refl, sym, ◌∙◌, ap, subst, arith}
use Rattle.std.proofs.lemmas.Bool.{cases_Bool, cond-false, cond-true, le-ltb, lt-ltb, ltb-false, ltb-true}
use Rattle.std.proofs.lemmas.List.Sorted.{sum_by-IsPermutation}
use Rattle.std.proofs.lemmas.List.Sums.{sum_by_push}
use Rattle.waff_model.specs.declared.cell.Cell.{Cell}
use Rattle.waff_limits.specs.Data.{ComesBefore, IsMore, IsMostOf, is_cell}
use Rattle.waff_limits.specs.Edges.{AreSmall, AreUsed, IsCellAt, IsMostAt, begun_at, ended_at, if_before, place_of}
use Rattle.waff_limits.specs.declared.data.CellUse.{CellUse}
use Rattle.waff_limits.specs.declared.edges.Edge.{Edge}
use Rattle.waff_limits.specs.declared.edges.Most.{Most}
use Rattle.waff_limits.proofs.Cells.{cases_cell}

abbrev pub begins_of : Edge → ℕ
begins_of edge = edge.begins

abbrev pub ends_of : Edge → ℕ
ends_of edge = edge.ends

abbrev pub edge_of : ℕ → ℕ → ℕ → Edge
edge_of place begins ends = record { place = place; begins = begins; ends = ends }

-- an edge before a place counts, and no other
pub is_before : (amount : Edge → ℕ) (place : ℕ) (edge : Edge) → edge.place < place → if_before amount place edge ≡ amount edge
is_before amount place edge lt = cond-true (nat_lt edge.place place) (amount edge) 0 (lt-ltb edge.place place lt)

pub not_before : (amount : Edge → ℕ) (place : ℕ) (edge : Edge) → place ≤ edge.place → if_before amount place edge ≡ 0
not_before amount place edge le = cond-false (nat_lt edge.place place) (amount edge) 0 (le-ltb edge.place place le)

-- two cells have two places
apart : (cell other : Cell) → cell.index < 2 ^ 32 → other.index < 2 ^ 32 → is_cell cell other ≡ false → place_of other ≡ place_of cell → ⊥
apart cell other short small not same =
    let space : cell.space ≡ other.space = omega arith in
    let index : cell.index ≡ other.index = omega arith in
    let held : is_cell cell other ≡ true = grind (arith, space, index) in
    let wrong : true ≡ false = sym held ∙ not in
    cc

pub same_used : (edges : List Edge) (used other : Cell → ℕ) → ((cell : Cell) → used cell ≡ other cell) → AreUsed edges used → AreUsed edges other
same_used edges used other same are = record {
  told = λ cell small. omega (arith, are.told cell small, same cell);
  no_other = λ cell far. sym (same cell) ∙ are.no_other cell far;
}

-- no other cell is used than before where one is
no_other_used : (cell : Cell) (ticks : ℕ) (used next : Cell → ℕ) → cell.index < 2 ^ 32 → IsMore used cell ticks next
    → ((other : Cell) → 2 ^ 32 ≤ other.index → used other ≡ 0) → (other : Cell) → 2 ^ 32 ≤ other.index → next other ≡ 0
no_other_used cell ticks used next small more none other far = elim (cases_cell cell other) [
  | inl same ↦ absurd (let index : other.index ≡ cell.index = ap (λ (c : Cell). c.index) same in omega (arith, index, small, far))
  | inr not ↦ more.others other not ∙ none other far
]

module _ (edges kept : List Edge) (cell : Cell) (cost : ℕ) (used next : Cell → ℕ) (small : cell.index < 2 ^ 32) (more : IsMore used cell cost next) where
  -- the last edge goes on to the cell
  pub goes_on : (before begins ends place : ℕ) → ends ≡ cost → before + 1 ≡ place → place ≡ place_of cell
      → ((p : ℕ) → begun_at kept p ≡ begun_at (edges ++ edge_of before begins 0 ∷ []) p) → ((p : ℕ) → ended_at kept p ≡ ended_at (edges ++ edge_of before begins 0 ∷ []) p)
      → AreUsed (edges ++ edge_of before begins ends ∷ []) used → AreUsed (kept ++ edge_of place 0 cost ∷ []) next
  goes_on before begins ends place is_cost step is begun ended are = record {
    told = λ other short.
        let p = place_of other in
        let last = edge_of before begins ends in
        let stops = edge_of before begins 0 in
        let new = edge_of place 0 cost in
        let old_begun = sum_by_push (if_before begins_of (p + 1)) edges last in
        let old_ended = sum_by_push (if_before ends_of p) edges last in
        let kept_begun = sum_by_push (if_before begins_of (p + 1)) edges stops in
        let kept_ended = sum_by_push (if_before ends_of p) edges stops in
        let new_begun = sum_by_push (if_before begins_of (p + 1)) kept new in
        let new_ended = sum_by_push (if_before ends_of p) kept new in
        let same_begins : if_before begins_of (p + 1) last ≡ if_before begins_of (p + 1) stops = refl in
        let none_begins : if_before begins_of (p + 1) new ≡ 0
        = elim (cases_Bool (nat_lt place (p + 1))) [ inl held ↦ cond-true (nat_lt place (p + 1)) 0 0 held | inr failed ↦ cond-false (nat_lt place (p + 1)) 0 0 failed ] in
        let none_ends : if_before ends_of p stops ≡ 0
        = elim (cases_Bool (nat_lt before p)) [ inl held ↦ cond-true (nat_lt before p) 0 0 held | inr failed ↦ cond-false (nat_lt before p) 0 0 failed ] in
        let was = are.told other short in
        let b = begun p in
        let e = ended p in
        elim (cases_cell cell other) [
          | inl same ↦
              let here : p ≡ place_of cell = ap place_of same in
              let uses : used other ≡ used cell = ap used same in
              let now : next other ≡ next cell = ap next same in
              let old : if_before ends_of p last ≡ ends = is_before ends_of p last (omega (arith, here, is, step)) in
              let later : if_before ends_of p new ≡ 0 = not_before ends_of p new (omega (arith, here, is)) in
              omega (arith, old_begun, old_ended, kept_begun, kept_ended, new_begun, new_ended, same_begins, none_begins, none_ends, was, b, e, uses, now, more.here, old, later, is_cost)
          | inr not ↦
              let now : next other ≡ used other = more.others other not in
              elim (cases_Bool (nat_lt place p)) [
                | inl held ↦
                    let lt : place < p = ltb-true place p held in
                    let old : if_before ends_of p last ≡ ends = is_before ends_of p last (omega (arith, lt, step)) in
                    let later : if_before ends_of p new ≡ cost = is_before ends_of p new lt in
                    omega (arith, old_begun, old_ended, kept_begun, kept_ended, new_begun, new_ended, same_begins, none_begins, none_ends, was, b, e, now, old, later, is_cost)
                | inr failed ↦
                    let le : p ≤ place = ltb-false place p failed in
                    let differ : p < place = elim (cases_Bool (nat_lt p place)) [
                      | inl less ↦ ltb-true p place less
                      | inr more ↦ absurd (apart cell other small short not (let equal : p ≡ place_of cell = omega (arith, le, ltb-false p place more, is) in equal))
                    ] in
                    let old : if_before ends_of p last ≡ 0 = not_before ends_of p last (omega (arith, differ, step)) in
                    let later : if_before ends_of p new ≡ 0 = not_before ends_of p new le in
                    omega (arith, old_begun, old_ended, kept_begun, kept_ended, new_begun, new_ended, same_begins, none_begins, none_ends, was, b, e, now, old, later)
              ]
        ];
    no_other = no_other_used cell cost used next small more are.no_other;
  }

  -- the cell has an edge of its own
  pub begins_anew : (last : Edge) (place : ℕ) → place ≡ place_of cell
      → ((p : ℕ) → begun_at kept p ≡ begun_at (edges ++ last ∷ []) p) → ((p : ℕ) → ended_at kept p ≡ ended_at (edges ++ last ∷ []) p)
      → AreUsed (edges ++ last ∷ []) used → AreUsed (kept ++ edge_of place cost cost ∷ []) next
  begins_anew last place is begun ended are = record {
    told = λ other short.
        let p = place_of other in
        let new = edge_of place cost cost in
        let new_begun = sum_by_push (if_before begins_of (p + 1)) kept new in
        let new_ended = sum_by_push (if_before ends_of p) kept new in
        let was = are.told other short in
        let b = begun p in
        let e = ended p in
        elim (cases_cell cell other) [
          | inl same ↦
              let here : p ≡ place_of cell = ap place_of same in
              let uses : used other ≡ used cell = ap used same in
              let now : next other ≡ next cell = ap next same in
              let first : if_before begins_of (p + 1) new ≡ cost = is_before begins_of (p + 1) new (omega (arith, here, is)) in
              let later : if_before ends_of p new ≡ 0 = not_before ends_of p new (omega (arith, here, is)) in
              omega (arith, new_begun, new_ended, was, b, e, uses, now, more.here, first, later)
          | inr not ↦
              let now : next other ≡ used other = more.others other not in
              elim (cases_Bool (nat_lt place p)) [
                | inl held ↦
                    let lt : place < p = ltb-true place p held in
                    let first : if_before begins_of (p + 1) new ≡ cost = is_before begins_of (p + 1) new (omega (arith, lt)) in
                    let later : if_before ends_of p new ≡ cost = is_before ends_of p new lt in
                    omega (arith, new_begun, new_ended, was, b, e, now, first, later)
                | inr failed ↦
                    let le : p ≤ place = ltb-false place p failed in
                    let differ : p < place = elim (cases_Bool (nat_lt p place)) [
                      | inl less ↦ ltb-true p place less
                      | inr more ↦ absurd (apart cell other small short not (let equal : p ≡ place_of cell = omega (arith, le, ltb-false p place more, is) in equal))
                    ] in
                    let first : if_before begins_of (p + 1) new ≡ 0 = not_before begins_of (p + 1) new (omega (arith, differ)) in
                    let later : if_before ends_of p new ≡ 0 = not_before ends_of p new le in
                    omega (arith, new_begun, new_ended, was, b, e, now, first, later)
              ]
        ];
    no_other = no_other_used cell cost used next small more are.no_other;
  }

-- edges that tell of few ticks at each cell are small
pub are_small : (edges : List Edge) (used : Cell → ℕ) → AreUsed edges used → ((cell : Cell) → used cell < 2 ^ 64) → AreSmall edges
are_small edges used are few = record { ended = λ place. at_most place; few = λ place. less place }
  where
    sums : (place : ℕ) → (n : ℕ) × (n < 2 ^ 64) × (ended_at edges place + n ≡ begun_at edges place)
    sums place =
        let cell : Cell = record { space = place / 4294967296; index = place % 4294967296 } in
        let is : place_of cell ≡ place = omega arith in
        (used cell, few cell, subst (λ p. ended_at edges p + used cell ≡ begun_at edges p) is (are.told cell (omega arith)))

    at_most : (place : ℕ) → ended_at edges place ≤ begun_at edges place
    at_most place = let s = sums place in omega (arith, s.2)

    less : (place : ℕ) → begun_at edges place < ended_at edges place + 2 ^ 64
    less place = let s = sums place in omega (arith, s.1, s.2)

-- the order of edges is all one
module _ (edges other : List Edge) (same : IsPermutation edges other) where
  begun_again : (place : ℕ) → begun_at other place ≡ begun_at edges place
  begun_again place = sum_by-IsPermutation (if_before begins_of (place + 1)) edges other same

  ended_again : (place : ℕ) → ended_at other place ≡ ended_at edges place
  ended_again place = sum_by-IsPermutation (if_before ends_of place) edges other same

  pub small_again : AreSmall edges → AreSmall other
  small_again small = record {
    ended = λ place. omega (arith, small.ended place, begun_again place, ended_again place);
    few = λ place. omega (arith, small.few place, begun_again place, ended_again place);
  }

  pub used_again : (used : Cell → ℕ) → AreUsed edges used → AreUsed other used
  used_again used are = record {
    told = λ cell short. omega (arith, are.told cell short, begun_again (place_of cell), ended_again (place_of cell));
    no_other = are.no_other;
  }

-- the first place of most ticks is that of the cell that is used longest
module _ (edges : List Edge) (used : Cell → ℕ) (are : AreUsed edges used) (found : Most)
    (is : IsMostAt (λ place. begun_at edges place - ended_at edges place) found) where
  within : (cell : Cell) → used cell ≤ found.ticks
  within cell = elim (cases_Bool (nat_lt cell.index 4294967296)) [
    | inl held ↦ omega (arith, are.told cell (ltb-true cell.index 4294967296 held), is.greatest (place_of cell))
    | inr failed ↦ omega (arith, are.no_other cell (ltb-false cell.index 4294967296 failed))
  ]

  pub is_most : (result : Option CellUse) → IsCellAt found result → IsMostOf used result
  is_most None none = λ cell. omega (arith, within cell, none)
  is_most (Some one) (ticks, some, place, short) = record {
    some = omega (arith, ticks, some);
    ticks =
        let there = is.at (omega (arith, some)) in
        let here : begun_at edges (place_of one.cell) - ended_at edges (place_of one.cell) ≡ found.ticks
        = subst (λ p. begun_at edges p - ended_at edges p ≡ found.ticks) (sym place) there in
        omega (arith, are.told one.cell short, here, ticks);
    most = λ cell. omega (arith, within cell, ticks);
    first = λ cell equal not. first cell equal not;
  }
    where
      first : (cell : Cell) → used cell ≡ one.ticks → is_cell one.cell cell ≡ false → ComesBefore one.cell cell
      first cell equal not =
          let small : cell.index < 4294967296 = elim (cases_Bool (nat_lt cell.index 4294967296)) [
            | inl held ↦ ltb-true cell.index 4294967296 held
            | inr failed ↦ absurd (omega (arith, are.no_other cell (ltb-false cell.index 4294967296 failed), equal, ticks, some))
          ] in
          let after : found.place ≤ place_of cell = elim (cases_Bool (nat_lt (place_of cell) found.place)) [
            | inl held ↦ absurd (omega (arith, is.first (place_of cell) (ltb-true (place_of cell) found.place held), are.told cell small, equal, ticks))
            | inr failed ↦ ltb-false (place_of cell) found.place failed
          ] in
          let later : place_of one.cell < place_of cell = elim (cases_Bool (nat_lt (place_of one.cell) (place_of cell))) [
            | inl held ↦ ltb-true (place_of one.cell) (place_of cell) held
            | inr failed ↦ absurd (apart one.cell cell short small not (let same : place_of cell ≡ place_of one.cell = omega (arith, after, place, ltb-false (place_of one.cell) (place_of cell) failed) in same))
          ] in
          elim (cases_Bool (nat_lt one.cell.space cell.space)) [
            | inl held ↦ inl (ltb-true one.cell.space cell.space held)
            | inr failed ↦ inr (omega (arith, later, small, short, ltb-false one.cell.space cell.space failed), omega (arith, later, small, short, ltb-false one.cell.space cell.space failed))
          ]
