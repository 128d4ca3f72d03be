-- The greatest cost of readings, place by place, laid as edges.
use Rattle.std.proofs.Common.{◌≡◌, inl, inr, ℕ, zero, suc, ◌+◌, ◌^◌, ◌<◌, ◌≤◌, ◌&&◌, ◌||◌, Bool, true, false, cond, nat_le, nat_lt, List, [], ◌∷◌, ◌++◌, All, IsPermutation, map, max, refl, sym, ◌∙◌, ap, subst, arith}
use Rattle.std.proofs.lemmas.Bool.{cases_Bool, cond-false, cond-true, ltb-false, ltb-true}
use Rattle.std.proofs.lemmas.List.{map_push}
use Rattle.std.proofs.lemmas.List.Recursion.{max_push}
use Rattle.std.proofs.lemmas.List.Sorted.{All-permutation, IsPermutation-sym}
use Rattle.waff_model.specs.declared.cell.Cell.{Cell}
use Rattle.waff_plan.specs.Work.{greatest}
use Rattle.waff_limits.specs.Data.{is_cell}
use Rattle.waff_limits.specs.Edges.{place_of}
use Rattle.waff_limits.specs.Readings.{AreRead, cost_at, peak_at}
use Rattle.waff_limits.specs.Runs.{is_in_run}
use Rattle.waff_limits.specs.declared.readings.Reading.{Reading}
use Rattle.waff_limits.proofs.RunLemmas.{between, cell_of, in_run, run_from}

abbrev pub reading_of : ℕ → ℕ → ℕ → Reading
reading_of first last cost = record { first = first; last = last; cost = cost }

first_fails : (a b : Bool) → a ≡ false → (a && b) ≡ false
first_fails a b is = ap (λ x. x && b) is

second_fails : (a b : Bool) → b ≡ false → (a && b) ≡ false
second_fails true b is = is
second_fails false b is = refl

both_hold : (a b : Bool) → a ≡ true → b ≡ true → (a && b) ≡ true
both_hold a b one other = ap (λ x. x && b) one ∙ other

le_holds : (a b : ℕ) → a ≤ b → nat_le a b ≡ true
le_holds a b le = grind (arith, le)

le_fails : (a b : ℕ) → b < a → nat_le a b ≡ false
le_fails a b lt = grind (arith, lt)

is_between : (first last place : ℕ) → first ≤ place → place ≤ last → between first last place ≡ true
is_between first last place from to = both_hold (nat_le first place) (nat_le place last) (le_holds first place from) (le_holds place last to)

is_before : (first last place : ℕ) → place < first → between first last place ≡ false
is_before first last place lt = first_fails (nat_le first place) (nat_le place last) (le_fails first place lt)

is_behind : (first last place : ℕ) → last < place → between first last place ≡ false
is_behind first last place lt = second_fails (nat_le first place) (nat_le place last) (le_fails place last lt)

-- the cost of a reading where it is and where it is not
pub cost_there : (first last cost place : ℕ) → first ≤ place → place ≤ last → cost_at place (reading_of first last cost) ≡ cost
cost_there first last cost place from to = cond-true (between first last place) cost 0 (is_between first last place from to)

pub cost_before : (first last cost place : ℕ) → place < first → cost_at place (reading_of first last cost) ≡ 0
cost_before first last cost place lt = cond-false (between first last place) cost 0 (is_before first last place lt)

pub cost_behind : (first last cost place : ℕ) → last < place → cost_at place (reading_of first last cost) ≡ 0
cost_behind first last cost place lt = cond-false (between first last place) cost 0 (is_behind first last place lt)

-- one reading more
pub peak_more : (readings : List Reading) (reading : Reading) (place : ℕ) → peak_at (readings ++ reading ∷ []) place ≡ max (peak_at readings place) (cost_at place reading)
peak_more readings reading place =
    ap greatest (map_push (cost_at place) readings reading) ∙ max_push greatest (λ x. x) refl (λ _ _. refl) (map (cost_at place) readings) (cost_at place reading)

-- the greatest is at least each, and no more than what is at least each
pub peak_above : (readings : List Reading) (place : ℕ) → All (λ r. cost_at place r ≤ peak_at readings place) readings
peak_above [] place k d low = absurd (omega (arith, low))
peak_above (r ∷ readings) place zero d low = omega arith
peak_above (r ∷ readings) place (suc k) d low = omega (arith, peak_above readings place k d (omega (arith, low)))

pub peak_most : (readings : List Reading) (place ticks : ℕ) → All (λ r. cost_at place r ≤ ticks) readings → peak_at readings place ≤ ticks
peak_most [] place ticks all = omega arith
peak_most (r ∷ readings) place ticks all =
    omega (arith, all 0 r (omega arith), peak_most readings place ticks (λ k d low. all (suc k) d (omega (arith, low))))

-- their order is all one
pub peak_again : (readings other : List Reading) → IsPermutation readings other → (place : ℕ) → peak_at other place ≡ peak_at readings place
peak_again readings other same place =
    let one = peak_most other place (peak_at readings place) (All-permutation (λ r. cost_at place r ≤ peak_at readings place) readings other same (peak_above readings place)) in
    let back = peak_most readings place (peak_at other place) (All-permutation (λ r. cost_at place r ≤ peak_at other place) other readings (IsPermutation-sym readings other same) (peak_above other place)) in
    omega (arith, one, back)

-- readings that tell of other peaks that are the same
pub same_read : (readings : List Reading) (peak other : Cell → ℕ) → ((cell : Cell) → peak cell ≡ other cell) → AreRead readings peak → AreRead readings other
same_read readings peak other same are = record {
  told = λ cell small. are.told cell small ∙ same cell;
  no_other = λ cell far. sym (same cell) ∙ are.no_other cell far;
}

-- one reading more tells of these cells
pub read_more : (readings : List Reading) (reading : Reading) (peak next : Cell → ℕ)
    → ((cell : Cell) → cell.index < 2 ^ 32 → next cell ≡ max (peak cell) (cost_at (place_of cell) reading))
    → ((cell : Cell) → 2 ^ 32 ≤ cell.index → next cell ≡ 0)
    → AreRead readings peak → AreRead (readings ++ reading ∷ []) next
read_more readings reading peak next more none are = record {
  told = λ cell small. peak_more readings reading (place_of cell) ∙ ap (λ n. max n (cost_at (place_of cell) reading)) (are.told cell small) ∙ sym (more cell small);
  no_other = none;
}

-- one cell has one place
in_cell : (cell other : Cell) → cell.index < 2 ^ 32 → other.index < 2 ^ 32 → between (place_of cell) (place_of cell) (place_of other) ≡ is_cell cell other
in_cell cell other short small = grind (arith, short, small)

-- with a cell more, where it is none of those that are written
pub one_read : (among is unwritten : Bool) (ticks cost : ℕ) → (is ≡ true → unwritten ≡ true)
    → max (max ticks (cond (among && unwritten) cost 0)) (cond is cost 0) ≡ max ticks (cond ((among || is) && unwritten) cost 0)
one_read true true true ticks cost keeps = omega arith
one_read true true false ticks cost keeps = absurd (let wrong : false ≡ true = keeps refl in cc)
one_read true false true ticks cost keeps = omega arith
one_read true false false ticks cost keeps = omega arith
one_read false true true ticks cost keeps = omega arith
one_read false true false ticks cost keeps = absurd (let wrong : false ≡ true = keeps refl in cc)
one_read false false true ticks cost keeps = omega arith
one_read false false false ticks cost keeps = omega arith

-- and where it is
pub none_read : (among is unwritten : Bool) → (is ≡ true → unwritten ≡ false) → (among && unwritten) ≡ ((among || is) && unwritten)
none_read true is unwritten drops = refl
none_read false true unwritten drops = sym (drops refl)
none_read false false unwritten drops = refl

-- a run more is read
pub run_read : (readings : List Reading) (space first last cost : ℕ) (peak : Cell → ℕ) → first < 2 ^ 32 → last < 2 ^ 32 → AreRead readings peak
    → AreRead (readings ++ reading_of (place_of (cell_of space first)) (place_of (cell_of space last)) cost ∷ [])
    (λ cell. max (peak cell) (cond (is_in_run (run_from space first last) cell) cost 0))
run_read readings space first last cost peak short until are =
    read_more readings _ peak _
    (λ cell small. ap (λ b. max (peak cell) (cond b cost 0)) (sym (in_run space first last cell short until small)))
    (λ cell far. let none = are.no_other cell far in let not : is_in_run (run_from space first last) cell ≡ false = grind (arith, far, until) in
    omega (arith, none, cond-false (is_in_run (run_from space first last) cell) cost 0 not))
    are

-- a cell more is read: by itself, or as the last of the last reading
module _ (readings : List Reading) (cell : Cell) (cost : ℕ) (peak : Cell → ℕ) (small : cell.index < 2 ^ 32) where
  no_other_read : (other : Cell) → 2 ^ 32 ≤ other.index → peak other ≡ 0 → max (peak other) (cond (is_cell cell other) cost 0) ≡ 0
  no_other_read other far none =
      let not : is_cell cell other ≡ false = grind (arith, far, small) in
      omega (arith, none, cond-false (is_cell cell other) cost 0 not)

  pub cell_read : (place : ℕ) → place ≡ place_of cell → AreRead readings peak
      → AreRead (readings ++ reading_of place place cost ∷ []) (λ other. max (peak other) (cond (is_cell cell other) cost 0))
  cell_read place is are =
      subst (λ p. AreRead (readings ++ reading_of p p cost ∷ []) (λ other. max (peak other) (cond (is_cell cell other) cost 0))) (sym is)
      (read_more readings (reading_of (place_of cell) (place_of cell) cost) peak (λ other. max (peak other) (cond (is_cell cell other) cost 0))
      (λ other short. ap (λ b. max (peak other) (cond b cost 0)) (sym (in_cell cell other small short)))
      (λ other far. no_other_read other far (are.no_other other far))
      are)

  -- a reading that goes on for one place
  longer : (first last place p : ℕ) → last + 1 ≡ place → first ≤ place
      → cost_at p (reading_of first place cost) ≡ max (cost_at p (reading_of first last cost)) (cost_at p (reading_of place place cost))
  longer first last place p next from = elim (cases_Bool (nat_lt p first)) [
    | inl held ↦
        let lt : p < first = ltb-true p first held in
        omega (arith, cost_before first place cost p lt, cost_before first last cost p lt, cost_before place place cost p (omega (arith, lt, from)))
    | inr failed ↦
        let le : first ≤ p = ltb-false p first failed in
        elim (cases_Bool (nat_lt last p)) [
          | inr before ↦
              let to : p ≤ last = ltb-false last p before in
              omega (arith, cost_there first place cost p le (omega (arith, to, next)), cost_there first last cost p le to, cost_before place place cost p (omega (arith, to, next)))
          | inl behind ↦
              let over : last < p = ltb-true last p behind in
              elim (cases_Bool (nat_lt place p)) [
                | inl far ↦
                    let gone : place < p = ltb-true place p far in
                    omega (arith, cost_behind first place cost p gone, cost_behind first last cost p over, cost_behind place place cost p gone)
                | inr near ↦
                    let to : p ≤ place = ltb-false place p near in
                    omega (arith, cost_there first place cost p le to, cost_behind first last cost p over, cost_there place place cost p (omega (arith, over, next)) to)
              ]
        ]
  ]

  pub longer_read : (first last place : ℕ) → place ≡ place_of cell → last + 1 ≡ place → first ≤ place
      → AreRead (readings ++ reading_of first last cost ∷ []) peak
      → AreRead (readings ++ reading_of first place cost ∷ []) (λ other. max (peak other) (cond (is_cell cell other) cost 0))
  longer_read first last place is next from are = record {
    told = λ other short.
        let p = place_of other in
        let old = peak_more readings (reading_of first last cost) p in
        let new = peak_more readings (reading_of first place cost) p in
        let step = longer first last place p next from in
        let one : cost_at p (reading_of place place cost) ≡ cond (is_cell cell other) cost 0
        = ap (λ q. cost_at p (reading_of q q cost)) is ∙ ap (λ b. cond b cost 0) (in_cell cell other small short) in
        omega (arith, old, new, step, one, are.told other short);
    no_other = λ other far. no_other_read other far (are.no_other other far);
  }
