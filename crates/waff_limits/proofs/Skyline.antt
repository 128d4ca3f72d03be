-- Readings that have begun, and the greatest of their costs laid from place to place.
use Rattle.std.proofs.Common.{◌≡◌, inl, inr, ℕ, zero, suc, ◌+◌, ◌^◌, ◌<◌, ◌≤◌, ◌&&◌, Bool, true, false, cond, nat_le, nat_lt, List, [], ◌∷◌, ◌++◌, All, Contains, IsPermutation, Some, slice_get, max, get_or, refl, sym, ◌∙◌, ap, subst, arith}
use Rattle.std.proofs.lemmas.Bool.{cases_Bool, cond-false, cond-true, ltb-false, ltb-true, lt-ltb, le-ltb}
use Rattle.std.proofs.lemmas.List.Elements.{All-contains}
use Rattle.std.proofs.lemmas.List.Sorted.{All-permutation, Contains-permutation}
use Rattle.std.proofs.lemmas.Option.{get_or_from_slice_get, slice_get_within}
use Rattle.waff_model.specs.declared.cell.Cell.{Cell}
use Rattle.waff_limits.specs.Edges.{AreUsed, place_of}
use Rattle.waff_limits.specs.Readings.{ArePeaks, AreRead, IsPeakOf, peak_at, with_peak, with_places}
use Rattle.waff_limits.specs.declared.edges.Edge.{Edge}
use Rattle.waff_limits.specs.declared.readings.Reading.{Reading}
use Rattle.waff_limits.proofs.EdgeLemmas.{same_used}
use Rattle.waff_limits.proofs.SkyLemmas.{cost_before, cost_behind, peak_more}

-- the head of a list is one of it, or of the rest
head_of : (r : ℕ × ℕ) (rs : List (ℕ × ℕ)) → Contains (r ∷ rs) r
head_of r rs = (0, omega arith, refl)

module _ (going new : List (ℕ × ℕ)) (r : ℕ × ℕ) (place ticks : ℕ) where
  -- one begins
  pub begins : IsPermutation (r ∷ going) new → IsPeakOf going place ticks → (next : ℕ) → next ≡ max ticks (cond (nat_le place r.1) r.0 0) → IsPeakOf new place next
  begins moved is next same = record {
    most = All-permutation (λ (s : ℕ × ℕ). place ≤ s.1 → s.0 ≤ next) (r ∷ going) new moved all;
    some = λ positive. elim (cases_Bool (nat_le place r.1)) [
      | inl held ↦ elim (cases_Bool (nat_lt ticks r.0)) [
        | inl less ↦ (
          r,
          Contains-permutation (r ∷ going) new r moved (head_of r going),
          to held,
          omega (arith, same, cond-true (nat_le place r.1) r.0 0 held, ltb-true ticks r.0 less),
        )
        | inr not ↦
            let rest : next ≡ ticks = omega (arith, same, cond-true (nat_le place r.1) r.0 0 held, ltb-false ticks r.0 not) in
            old rest positive
      ]
      | inr failed ↦
          let rest : next ≡ ticks = omega (arith, same, cond-false (nat_le place r.1) r.0 0 failed) in
          old rest positive
    ];
  }
    where
      to : nat_le place r.1 ≡ true → place ≤ r.1
      to held = grind (arith, held)

      all : All (λ (s : ℕ × ℕ). place ≤ s.1 → s.0 ≤ next) (r ∷ going)
      all zero d low = λ reaches.
          let held : nat_le place r.1 ≡ true = grind (arith, reaches) in
          omega (arith, same, cond-true (nat_le place r.1) r.0 0 held)
      all (suc k) d low = λ reaches. let less = is.most k d (omega (arith, low)) reaches in omega (arith, less, same)

      old : next ≡ ticks → 0 < next → (s : ℕ × ℕ) × Contains new s × (place ≤ s.1) × (s.0 ≡ next)
      old rest positive =
          let (s, there, reaches, cost) = is.some (omega (arith, rest, positive)) in
          (s, Contains-permutation (r ∷ going) new s moved (behind s there), reaches, cost ∙ sym rest)
        where
          behind : (s : ℕ × ℕ) → Contains going s → Contains (r ∷ going) s
          behind s (k, inside, here) = (suc k, omega (arith, inside), here)

  -- one ends before the place
  pub ends : IsPermutation going (r ∷ new) → r.1 < place → IsPeakOf going place ticks → IsPeakOf new place ticks
  ends moved behind is = record {
    most = λ k d low. all (suc k) d (omega (arith, low));
    some = λ positive.
        let (s, there, reaches, cost) = is.some positive in
        left s reaches cost (Contains-permutation going (r ∷ new) s moved there);
  }
    where
      all : All (λ (s : ℕ × ℕ). place ≤ s.1 → s.0 ≤ ticks) (r ∷ new)
      all = All-permutation (λ (s : ℕ × ℕ). place ≤ s.1 → s.0 ≤ ticks) going (r ∷ new) moved is.most

      left : (s : ℕ × ℕ) → place ≤ s.1 → s.0 ≡ ticks → Contains (r ∷ new) s → (t : ℕ × ℕ) × Contains new t × (place ≤ t.1) × (t.0 ≡ ticks)
      left s reaches cost (zero, inside, here) = absurd (let same : r.1 ≡ s.1 = ap (λ (t : ℕ × ℕ). t.1) here in omega (arith, same, behind, reaches))
      left s reaches cost (suc k, inside, here) = (s, (k, omega (arith, inside), here), reaches, cost)

-- the first, which none passes, is the greatest as far as it goes
pub is_first : (going : List (ℕ × ℕ)) (r : ℕ × ℕ) (place ticks : ℕ) → slice_get going 0 ≡ Some r → All (λ (s : ℕ × ℕ). s.0 ≤ r.0) going → place ≤ r.1
    → IsPeakOf going place ticks → ticks ≡ r.0
is_first going r place ticks first top reaches is =
    let within = slice_get_within going 0 r first in
    let same : get_or going 0 r ≡ r = get_or_from_slice_get going 0 r r first in
    let least : r.0 ≤ ticks = subst (λ (s : ℕ × ℕ). place ≤ s.1 → s.0 ≤ ticks) same (is.most 0 r within) reaches in
    elim (cases_Bool (nat_lt 0 ticks)) [
      | inl held ↦
          let (s, there, on, cost) = is.some (ltb-true 0 ticks held) in
          omega (arith, least, All-contains (λ (s : ℕ × ℕ). s.0 ≤ r.0) going s top there, cost)
      | inr failed ↦ omega (arith, least, ltb-false 0 ticks failed)
    ]

-- where none goes on there is no cost
pub is_none : (place ticks : ℕ) → IsPeakOf [] place ticks → ticks ≡ 0
is_none place ticks is = elim (cases_Bool (nat_lt 0 ticks)) [
  | inl held ↦ let (s, (k, inside, here), reaches, cost) = is.some (ltb-true 0 ticks held) in absurd (omega (arith, inside))
  | inr failed ↦ omega (arith, ltb-false 0 ticks failed)
]

pub nothing_begun : (place : ℕ) → IsPeakOf [] place 0
nothing_begun place = record {
  most = λ k d low. absurd (omega (arith, low));
  some = λ positive. absurd (omega (arith, positive));
}

-- what has been laid up to a place is laid further
module _ (used : Cell → ℕ) (peak : ℕ → ℕ) (from end : ℕ) where
  abbrev up_to : ℕ → Cell → Bool
  up_to e cell = nat_lt cell.index (2 ^ 32) && nat_lt (place_of cell) e

  abbrev laid : ℕ → Cell → ℕ
  laid e cell = cond (up_to e cell) (peak (place_of cell)) 0

  far : (e : ℕ) (cell : Cell) → nat_lt cell.index (2 ^ 32) ≡ false → laid e cell ≡ 0
  far e cell fails = cond-false (up_to e cell) (peak (place_of cell)) 0 (ap (λ b. b && nat_lt (place_of cell) e) fails)

  below : (e : ℕ) (cell : Cell) → nat_lt cell.index (2 ^ 32) ≡ true → place_of cell < e → laid e cell ≡ peak (place_of cell)
  below e cell holds lt = cond-true (up_to e cell) (peak (place_of cell)) 0 (ap (λ b. b && nat_lt (place_of cell) e) holds ∙ lt-ltb (place_of cell) e lt)

  above : (e : ℕ) (cell : Cell) → nat_lt cell.index (2 ^ 32) ≡ true → e ≤ place_of cell → laid e cell ≡ 0
  above e cell holds le = cond-false (up_to e cell) (peak (place_of cell)) 0 (ap (λ b. b && nat_lt (place_of cell) e) holds ∙ le-ltb (place_of cell) e le)

  -- nothing has to be laid there
  pub goes_over : from ≤ end → ((place : ℕ) → from ≤ place → place < end → peak place ≡ 0) → (cell : Cell) → with_peak used peak from cell ≡ with_peak used peak end cell
  goes_over order none cell =
      let p = place_of cell in
      elim (cases_Bool (nat_lt cell.index (2 ^ 32))) [
        | inr fails ↦ omega (arith, far from cell fails, far end cell fails)
        | inl holds ↦ elim (cases_Bool (nat_lt p from)) [
          | inl held ↦
              let lt : p < from = ltb-true p from held in
              omega (arith, below from cell holds lt, below end cell holds (omega (arith, lt, order)))
          | inr failed ↦
              let le : from ≤ p = ltb-false p from failed in
              elim (cases_Bool (nat_lt p end)) [
                | inl inside ↦
                    let lt : p < end = ltb-true p end inside in
                    omega (arith, above from cell holds le, below end cell holds lt, none p le lt)
                | inr behind ↦ omega (arith, above from cell holds le, above end cell holds (ltb-false p end behind))
              ]
        ]
      ]

  -- one cost is laid there, up to the last place
  pub goes_on : (last cost : ℕ) → last + 1 ≡ end → from ≤ last → ((place : ℕ) → from ≤ place → place < end → peak place ≡ cost)
      → (cell : Cell) → with_places (with_peak used peak from) from last cost cell ≡ with_peak used peak end cell
  goes_on last cost next order same cell =
      let p = place_of cell in
      let inside : Bool = nat_lt cell.index (2 ^ 32) && (nat_le from p && nat_le p last) in
      elim (cases_Bool (nat_lt cell.index (2 ^ 32))) [
        | inr fails ↦
            let none = cond-false inside cost 0 (ap (λ b. b && (nat_le from p && nat_le p last)) fails) in
            omega (arith, far from cell fails, far end cell fails, none)
        | inl holds ↦
            let is : inside ≡ (nat_le from p && nat_le p last) = ap (λ b. b && (nat_le from p && nat_le p last)) holds in
            elim (cases_Bool (nat_lt p from)) [
              | inl held ↦
                  let lt : p < from = ltb-true p from held in
                  let not : (nat_le from p && nat_le p last) ≡ false = grind (arith, lt) in
                  omega (arith, below from cell holds lt, below end cell holds (omega (arith, lt, order, next)), cond-false inside cost 0 (is ∙ not))
              | inr failed ↦
                  let le : from ≤ p = ltb-false p from failed in
                  elim (cases_Bool (nat_lt p end)) [
                    | inl short ↦
                        let lt : p < end = ltb-true p end short in
                        let to : p ≤ last = omega (arith, lt, next) in
                        let yes : (nat_le from p && nat_le p last) ≡ true = grind (arith, le, to) in
                        omega (arith, above from cell holds le, below end cell holds lt, same p le lt, cond-true inside cost 0 (is ∙ yes))
                    | inr long ↦
                        let behind : end ≤ p = ltb-false p end long in
                        let over : last < p = omega (arith, behind, next) in
                        let not : (nat_le from p && nat_le p last) ≡ false = grind (arith, over) in
                        omega (arith, above from cell holds le, above end cell holds behind, cond-false inside cost 0 (is ∙ not))
                  ]
            ]
      ]

-- peaks that are the same below a place are laid alike up to it
pub same_peak : (used : Cell → ℕ) (peak other : ℕ → ℕ) (end : ℕ) → ((place : ℕ) → place < end → peak place ≡ other place)
    → (cell : Cell) → with_peak used peak end cell ≡ with_peak used other end cell
same_peak used peak other end same cell =
    let there : Bool = nat_lt cell.index (2 ^ 32) && nat_lt (place_of cell) end in
    elim (cases_Bool (nat_lt (place_of cell) end)) [
      | inl held ↦ ap (λ n. used cell + cond there n 0) (same (place_of cell) (ltb-true (place_of cell) end held))
      | inr failed ↦
          let not : there ≡ false = ap (λ b. nat_lt cell.index (2 ^ 32) && b) failed ∙ no_end (nat_lt cell.index (2 ^ 32)) in
          omega (arith, cond-false there (peak (place_of cell)) 0 not, cond-false there (other (place_of cell)) 0 not)
    ]
  where
    no_end : (b : Bool) → (b && false) ≡ false
    no_end true = refl
    no_end false = refl

-- nothing is laid up to the first place
pub none_laid : (used : Cell → ℕ) (peak : ℕ → ℕ) (cell : Cell) → used cell ≡ with_peak used peak 0 cell
none_laid used peak cell =
    let there : Bool = nat_lt cell.index (2 ^ 32) && nat_lt (place_of cell) 0 in
    elim (cases_Bool there) [
      | inl held ↦ absurd (no_place (nat_lt cell.index (2 ^ 32)) (nat_lt (place_of cell) 0) (le-ltb (place_of cell) 0 (omega arith)) held)
      | inr failed ↦ omega (arith, cond-false there (peak (place_of cell)) 0 failed)
    ]
  where
    no_place : (a b : Bool) → b ≡ false → (a && b) ≡ true → ⊥
    no_place true b fails holds = let wrong : false ≡ true = sym fails ∙ holds in cc
    no_place false b fails holds = cc

-- what readings tell is laid, where they tell nothing from some place on
pub read_laid : (readings told : List Reading) (used peak : Cell → ℕ) (end : ℕ) → ((place : ℕ) → peak_at told place ≡ peak_at readings place) → AreRead readings peak
    → ((place : ℕ) → end ≤ place → peak_at told place ≡ 0) → (cell : Cell) → with_peak used (peak_at told) end cell ≡ used cell + peak cell
read_laid readings told used peak end same are none cell =
    let p = place_of cell in
    let small : Bool = nat_lt cell.index (2 ^ 32) in
    let there : Bool = small && nat_lt p end in
    elim (cases_Bool small) [
      | inr failed ↦
          let not : there ≡ false = ap (λ b. b && nat_lt p end) failed in
          omega (arith, cond-false there (peak_at told p) 0 not, are.no_other cell (ltb-false cell.index (2 ^ 32) failed))
      | inl held ↦
          let is : peak_at told p ≡ peak cell = same p ∙ are.told cell (ltb-true cell.index (2 ^ 32) held) in
          elim (cases_Bool (nat_lt p end)) [
            | inl before ↦
                let yes : there ≡ true = ap (λ b. b && nat_lt p end) held ∙ before in
                omega (arith, cond-true there (peak_at told p) 0 yes, is)
            | inr behind ↦
                let not : there ≡ false = ap (λ b. b && nat_lt p end) held ∙ behind in
                omega (arith, cond-false there (peak_at told p) 0 not, is, none p (ltb-false p end behind))
          ]
    ]

-- readings so far, laid up to a place
pub record AreLaid (first now : List Edge) (going : List (ℕ × ℕ)) (readings : List Reading) (at : ℕ) : Type 0 where
  pub laid : (used : Cell → ℕ) → AreUsed first used → AreUsed now (with_peak used (peak_at readings) at)
  pub go_on : ArePeaks going (peak_at readings) at
  pub none : (place : ℕ) → 2 ^ 64 ≤ place → peak_at readings place ≡ 0

pub none_yet : (edges : List Edge) → AreLaid edges edges [] [] 0
none_yet edges = record {
  laid = λ used are. same_used edges used (with_peak used (peak_at []) 0) (none_laid used (peak_at [])) are;
  go_on = λ place from. nothing_begun place;
  none = λ place far. refl;
}

-- a reading more begins where those before it are laid
pub one_laid : (first now next : List Edge) (going ended begun : List (ℕ × ℕ)) (readings : List Reading) (at : ℕ) (reading : Reading)
    → AreLaid first now going readings at → reading.last < 2 ^ 64
    → ((used : Cell → ℕ) (peak : ℕ → ℕ) → AreUsed now (with_peak used peak at) → ArePeaks going peak at → AreUsed next (with_peak used peak reading.first))
    → ((peak : ℕ → ℕ) → ArePeaks going peak at → ArePeaks ended peak reading.first)
    → IsPermutation ((reading.cost, reading.last) ∷ ended) begun
    → AreLaid first next begun (readings ++ reading ∷ []) reading.first
one_laid first now next going ended begun readings at reading are small laying going_on moved = record {
  laid = λ used is.
      same_used next (with_peak used pk reading.first) (with_peak used new reading.first)
      (same_peak used pk new reading.first (λ place lt. sym (unchanged place lt)))
      (laying used pk (are.laid used is) are.go_on);
  go_on = λ place from. begins ended begun (reading.cost, reading.last) place (pk place) moved (going_on pk are.go_on place from) (new place) (with_cost place from);
  none = λ place far.
      omega (arith, peak_more readings reading place, are.none place far, cost_behind reading.first reading.last reading.cost place (omega (arith, far, small)));
}
  where
    pk : ℕ → ℕ
    pk = peak_at readings

    new : ℕ → ℕ
    new = peak_at (readings ++ reading ∷ [])

    unchanged : (place : ℕ) → place < reading.first → new place ≡ pk place
    unchanged place lt = omega (arith, peak_more readings reading place, cost_before reading.first reading.last reading.cost place lt)

    with_cost : (place : ℕ) → reading.first ≤ place → new place ≡ max (pk place) (cond (nat_le place reading.last) reading.cost 0)
    with_cost place from =
        let begun_there : nat_le reading.first place ≡ true = grind (arith, from) in
        peak_more readings reading place ∙ ap (λ b. max (pk place) (cond (b && nat_le place reading.last) reading.cost 0)) begun_there

-- readings that go on, laid from one place on
pub record AreLaying (first now : List Edge) (before going : List (ℕ × ℕ)) (from at end : ℕ) : Type 0 where
  pub order : from ≤ at
  pub within : at ≤ end
  pub laid : (used : Cell → ℕ) (peak : ℕ → ℕ) → AreUsed first (with_peak used peak from) → ArePeaks before peak from → AreUsed now (with_peak used peak at)
  pub go_on : (peak : ℕ → ℕ) → ArePeaks before peak from → ArePeaks going peak at

pub none_laid_yet : (edges : List Edge) (going : List (ℕ × ℕ)) (from end : ℕ) → from ≤ end → AreLaying edges edges going going from from end
none_laid_yet edges going from end order = record {
  order = omega arith;
  within = order;
  laid = λ used peak are peaks. are;
  go_on = λ peak peaks. peaks;
}

module _ (first now : List Edge) (before going ended : List (ℕ × ℕ)) (from at end : ℕ) (r : ℕ × ℕ) (are : AreLaying first now before going from at end)
    (is : slice_get going 0 ≡ Some r) (top : All (λ (s : ℕ × ℕ). s.0 ≤ r.0) going) where
  -- the first is laid as far as it goes
  cost_of : (used : Cell → ℕ) (peak : ℕ → ℕ) → ArePeaks before peak from → (place : ℕ) → at ≤ place → place ≤ r.1 → peak place ≡ r.0
  cost_of used peak peaks place on reaches = is_first going r place (peak place) is top reaches (are.go_on peak peaks place on)

  pub first_laid : (next : List Edge) → r.1 < end → at ≤ r.1 → IsPermutation going (r ∷ ended)
      → ((used : Cell → ℕ) → AreUsed now used → AreUsed next (with_places used at r.1 r.0)) → AreLaying first next before ended from (r.1 + 1) end
  first_laid next short on moved adds = record {
    order = omega (arith, are.order, on);
    within = omega (arith, short);
    laid = λ used peak is_used peaks.
        same_used next (with_places (with_peak used peak at) at r.1 r.0) (with_peak used peak (r.1 + 1))
        (goes_on used peak at (r.1 + 1) r.1 r.0 refl on (λ place from_there to. cost_of used peak peaks place from_there (omega (arith, to))))
        (adds (with_peak used peak at) (are.laid used peak is_used peaks));
    go_on = λ peak peaks place behind. ends going ended r place (peak place) moved (omega (arith, behind)) (are.go_on peak peaks place (omega (arith, behind, on)));
  }

  -- or has ended before
  pub first_dropped : r.1 < at → IsPermutation going (r ∷ ended) → AreLaying first now before ended from at end
  first_dropped gone moved = record {
    order = are.order;
    within = are.within;
    laid = are.laid;
    go_on = λ peak peaks place on. ends going ended r place (peak place) moved (omega (arith, gone, on)) (are.go_on peak peaks place on);
  }

  -- it goes on behind the end
  pub rest_laid : end ≤ r.1 → (next : List Edge)
      → ((used : Cell → ℕ) (peak : ℕ → ℕ) → AreUsed now (with_peak used peak at) → ((place : ℕ) → at ≤ place → place < end → peak place ≡ r.0) → AreUsed next (with_peak used peak end))
      → (used : Cell → ℕ) (peak : ℕ → ℕ) → AreUsed first (with_peak used peak from) → ArePeaks before peak from → AreUsed next (with_peak used peak end)
  rest_laid far next adds used peak is_used peaks =
      adds used peak (are.laid used peak is_used peaks) (λ place on lt. cost_of used peak peaks place on (omega (arith, lt, far)))

-- and the peaks from the end on are those from a place before it
pub peaks_further : (first now : List Edge) (before going : List (ℕ × ℕ)) (from at end : ℕ) → AreLaying first now before going from at end
    → (peak : ℕ → ℕ) → ArePeaks before peak from → ArePeaks going peak end
peaks_further first now before going from at end are peak peaks place on = are.go_on peak peaks place (omega (arith, on, are.within))

-- where none goes on nothing is laid further
pub none_left : (first now : List Edge) (before going : List (ℕ × ℕ)) (from at end : ℕ) → AreLaying first now before going from at end → going ≡ []
    → (used : Cell → ℕ) (peak : ℕ → ℕ) → AreUsed first (with_peak used peak from) → ArePeaks before peak from → AreUsed now (with_peak used peak end)
none_left first now before going from at end are none used peak is_used peaks =
    same_used now (with_peak used peak at) (with_peak used peak end)
    (goes_over used peak at end are.within
    (λ place on lt. is_none place (peak place) (subst (λ gs. IsPeakOf gs place (peak place)) none (are.go_on peak peaks place on))))
    (are.laid used peak is_used peaks)
