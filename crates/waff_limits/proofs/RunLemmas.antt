-- Cells in a row: which operations name them, and what edges tell of them.
use Rattle.std.proofs.Common.{◌≡◌, inl, inr, ℕ, ◌+◌, ◌^◌, ◌<◌, ◌≤◌, ◌||◌, ◌&&◌, Bool, true, false, cond, nat_le, nat_lt, List, [], ◌∷◌, ◌++◌, refl, sym, ◌∙◌, ap, arith}
use Rattle.std.specs.List.{list_any}
use Rattle.std.proofs.lemmas.Bool.{cases_Bool, cond-false, cond-true, le-ltb, lt-ltb, ltb-false, ltb-true}
use Rattle.std.proofs.lemmas.List.Folds.{list_any-append}
use Rattle.std.proofs.lemmas.List.Sums.{sum_by_push}
use Rattle.waff_model.specs.declared.cell.Cell.{Cell}
use Rattle.waff_limits.specs.Data.{is_cell}
use Rattle.waff_limits.specs.Edges.{AreUsed, begun_at, ended_at, if_before, place_of}
use Rattle.waff_limits.specs.Readings.{with_places}
use Rattle.waff_limits.specs.Runs.{AreOfRun, is_in_run, used_in_run}
use Rattle.waff_limits.specs.declared.edges.Edge.{Edge}
use Rattle.waff_limits.specs.declared.runs.Run.{Run}
use Rattle.waff_limits.proofs.EdgeLemmas.{begins_of, edge_of, ends_of, is_before, not_before}

abbrev pub run_from : ℕ → ℕ → ℕ → Run
run_from space first last = record { space = space; first = first; last = last }

abbrev pub cell_of : ℕ → ℕ → Cell
cell_of space index = record { space = space; index = index }

-- one cell is a run
pub one_cell : (cell : Cell) → AreOfRun (cell ∷ []) (run_from cell.space cell.index cell.index)
one_cell cell other = grind arith

-- a run and the cell behind it are one
joined : (space first last : ℕ) (cell : Cell) → first ≤ last
    → (is_in_run (run_from space first last) cell || is_cell cell (cell_of space (last + 1))) ≡ is_in_run (run_from space first (last + 1)) cell
joined space first last cell filled = grind (arith, filled)

pub one_behind : (cells : List Cell) (space first last : ℕ) → first ≤ last → AreOfRun cells (run_from space first last)
    → AreOfRun (cells ++ cell_of space (last + 1) ∷ []) (run_from space first (last + 1))
one_behind cells space first last filled are cell =
    list_any-append (is_cell cell) cells (cell_of space (last + 1) ∷ [])
    ∙ ap (λ b. b || list_any (is_cell cell) (cell_of space (last + 1) ∷ [])) (are cell)
    ∙ ap (λ b. is_in_run (run_from space first last) cell || b) (or_false (is_cell cell (cell_of space (last + 1))))
    ∙ joined space first last cell filled
  where
    or_false : (b : Bool) → (b || false) ≡ b
    or_false true = refl
    or_false false = refl

-- whether a place is one of those from the first to the last
abbrev pub between : ℕ → ℕ → ℕ → Bool
between first last place = nat_le first place && nat_le place last

-- the places of a run are those of its cells
pub in_run : (space first last : ℕ) (cell : Cell) → first < 2 ^ 32 → last < 2 ^ 32 → cell.index < 2 ^ 32
    → between (place_of (cell_of space first)) (place_of (cell_of space last)) (place_of cell) ≡ is_in_run (run_from space first last) cell
in_run space first last cell short until small = grind (arith, short, until, small)

far_from_run : (space first last : ℕ) (cell : Cell) → last < 2 ^ 32 → 2 ^ 32 ≤ cell.index → is_in_run (run_from space first last) cell ≡ false
far_from_run space first last cell until far = grind (arith, far, until)

-- what is used at these places is used in the run
pub used_there : (used : Cell → ℕ) (space first last cost : ℕ) → first < 2 ^ 32 → last < 2 ^ 32 → (cell : Cell)
    → with_places used (place_of (cell_of space first)) (place_of (cell_of space last)) cost cell ≡ used_in_run (run_from space first last) used cost cell
used_there used space first last cost short until cell =
    let b : Bool = between (place_of (cell_of space first)) (place_of (cell_of space last)) (place_of cell) in
    elim (cases_Bool (nat_lt cell.index (2 ^ 32))) [
      | inl held ↦
          ap (λ x. used cell + cond x cost 0)
          (ap (λ x. x && b) held ∙ in_run space first last cell short until (ltb-true cell.index (2 ^ 32) held))
      | inr failed ↦
          ap (λ x. used cell + cond x cost 0)
          (ap (λ x. x && b) failed ∙ sym (far_from_run space first last cell until (ltb-false cell.index (2 ^ 32) failed)))
    ]

-- places in a row have two edges
module _ (first last cost : ℕ) (used : Cell → ℕ) (filled : first ≤ last) where
  abbrev begin_edge : Edge
  begin_edge = edge_of first cost 0

  abbrev end_edge : Edge
  end_edge = edge_of last 0 cost

  abbrev is_there : Cell → Bool
  is_there cell = nat_lt cell.index (2 ^ 32) && between first last (place_of cell)

  is_between : (cell : Cell) → cell.index < 2 ^ 32 → is_there cell ≡ between first last (place_of cell)
  is_between cell small = ap (λ b. b && between first last (place_of cell)) (lt-ltb cell.index (2 ^ 32) small)

  -- what the two edges make of the ticks of a cell
  counts : (cell : Cell) → cell.index < 2 ^ 32
      → if_before ends_of (place_of cell) end_edge + cond (is_there cell) cost 0 ≡ if_before begins_of (place_of cell + 1) begin_edge
  counts cell small =
      let p = place_of cell in
      elim (cases_Bool (nat_lt p first)) [
        | inl held ↦
            let lt : p < first = ltb-true p first held in
            let not : between first last p ≡ false = grind (arith, lt) in
            omega (arith, cond-false (is_there cell) cost 0 (is_between cell small ∙ not), not_before ends_of p end_edge (omega (arith, lt, filled)), not_before begins_of (p + 1) begin_edge (omega (arith, lt)))
        | inr failed ↦
            let le : first ≤ p = ltb-false p first failed in
            elim (cases_Bool (nat_lt last p)) [
              | inl held ↦
                  let lt : last < p = ltb-true last p held in
                  let not : between first last p ≡ false = grind (arith, lt) in
                  omega (arith, cond-false (is_there cell) cost 0 (is_between cell small ∙ not), is_before ends_of p end_edge lt, is_before begins_of (p + 1) begin_edge (omega (arith, le)))
              | inr after ↦
                  let to : p ≤ last = ltb-false last p after in
                  let yes : between first last p ≡ true = grind (arith, le, to) in
                  omega (arith, cond-true (is_there cell) cost 0 (is_between cell small ∙ yes), not_before ends_of p end_edge to, is_before begins_of (p + 1) begin_edge (omega (arith, le)))
            ]
      ]

  none_counts : (amount : Edge → ℕ) (edge : Edge) → amount edge ≡ 0 → (p : ℕ) → if_before amount p edge ≡ 0
  none_counts amount edge none p = elim (cases_Bool (nat_lt edge.place p)) [
    | inl held ↦ cond-true (nat_lt edge.place p) (amount edge) 0 held ∙ none
    | inr failed ↦ cond-false (nat_lt edge.place p) (amount edge) 0 failed
  ]

  pub adds_places : (old kept more : List Edge)
      → ((p : ℕ) → begun_at kept p ≡ begun_at old p) → ((p : ℕ) → ended_at kept p ≡ ended_at old p)
      → ((p : ℕ) → begun_at more p ≡ begun_at (kept ++ begin_edge ∷ []) p) → ((p : ℕ) → ended_at more p ≡ ended_at (kept ++ begin_edge ∷ []) p)
      → AreUsed old used → AreUsed (more ++ end_edge ∷ []) (with_places used first last cost)
  adds_places old kept more begun ended begun_more ended_more are = record {
    told = λ cell small.
        let p = place_of cell in
        let first_begun = sum_by_push (if_before begins_of (p + 1)) kept begin_edge in
        let first_ended = sum_by_push (if_before ends_of p) kept begin_edge in
        let last_begun = sum_by_push (if_before begins_of (p + 1)) more end_edge in
        let last_ended = sum_by_push (if_before ends_of p) more end_edge in
        let no_end = none_counts ends_of begin_edge refl p in
        let no_begin = none_counts begins_of end_edge refl (p + 1) in
        omega (arith, first_begun, first_ended, last_begun, last_ended, no_end, no_begin, begun p, ended p, begun_more p, ended_more p, are.told cell small, counts cell small);
    no_other = λ cell far.
        let not : is_there cell ≡ false = ap (λ b. b && between first last (place_of cell)) (le-ltb cell.index (2 ^ 32) far) in
        omega (arith, are.no_other cell far, cond-false (is_there cell) cost 0 not);
  }
