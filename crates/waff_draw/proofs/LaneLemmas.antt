-- Which numbers a list has, the numbers of messages' affinities, and the rows of lanes.
use Rattle.std.proofs.Common.{◌≡◌, ◌≢◌, ℕ, zero, suc, ◌+◌, ◌<◌, ◌≤◌, Bool, true, false, inl, inr, cond, ◌==◌, ◌||◌, List, [], ◌∷◌, ◌++◌, drop, length, get_or, set, map, All, replicate, Option, Some, None, unwrap_or, arith, refl, sym, ◌∙◌, ap, subst, length-set, get_or-set_other, get_or-set_same}
use Rattle.std.proofs.Math.Seq.{drop-cons}
use Rattle.std.proofs.lemmas.Bool.{cases_eq}
use Rattle.std.proofs.lemmas.Bool.Decides.{nat_tests}
use Rattle.std.proofs.lemmas.List.Elements.{All-cons, All-map, All-nil}
use Rattle.std.proofs.lemmas.List.Folds.{list_any-append}
use Rattle.waff_model.specs.Tree.{Node}
use Rattle.waff_assign.specs.Held.{AreKnown, Held}
use Rattle.waff_assign.specs.Order.{number_or}
use Rattle.waff_draw.specs.Lanes.{affinities_of, is_among, row_from}
use Rattle.waff_draw.specs.declared.lanes.Lane.{Lane}

pub same_tests : (a b : ℕ) → a ≡ b → (a == b) ≡ true
same_tests a b same = grind (arith, nat_tests, same)

pub other_tests : (a b : ℕ) → a ≢ b → (a == b) ≡ false
other_tests a b other = grind (arith, nat_tests, other)

or_last : (b c : Bool) → c ≡ true → (b || (c || false)) ≡ true
or_last true c h = refl
or_last false c h = ap (λ x. x || false) h

pub or_none : (b c : Bool) → c ≡ false → (b || (c || false)) ≡ b
or_none true c h = refl
or_none false c h = ap (λ x. x || false) h

-- the marks tell the numbers
abbrev pub Tells : List Bool → List ℕ → Type 0
Tells marks numbers = (n : ℕ) → n < length marks → get_or marks n false ≡ is_among numbers n

pub tells_more : (marks : List Bool) (numbers : List ℕ) (m : ℕ) → m < length marks → Tells marks numbers
    → Tells (set marks m true) (numbers ++ m ∷ [])
tells_more marks numbers m within tells n inside =
    let parts = list_any-append (λ x. x == n) numbers (m ∷ []) in
    elim (cases_eq n m) [
      | inl same ↦
          subst (λ x. get_or (set marks m true) x false ≡ true) (sym same) (get_or-set_same marks m true false within)
          ∙ sym (parts ∙ or_last (is_among numbers n) (m == n) (same_tests m n (sym same)))
      | inr other ↦
          get_or-set_other marks m n true false other
          ∙ tells n (subst (λ k. n < k) (length-set marks m true) inside)
          ∙ sym (parts ∙ or_none (is_among numbers n) (m == n) (other_tests m n (λ e. other (sym e))))
    ]

-- the rows are those of the lanes from this one on
abbrev pub AreRows : ℕ → List Lane → List ℕ → Type 0
AreRows row lanes rows = (a : ℕ) → a < length rows → get_or rows a 0 ≡ row_from row (drop row lanes) a

pub rows_more : (row : ℕ) (lanes : List Lane) (rows : List ℕ) (lane d : Lane) → row < length lanes → lane ≡ get_or lanes row d
    → lane.affinity < length rows → AreRows (row + 1) lanes rows → AreRows row lanes (set rows lane.affinity row)
rows_more row lanes rows lane d within is inside are a low =
    let one_more : suc row ≡ row + 1 = omega arith in
    let next : drop row lanes ≡ lane ∷ drop (row + 1) lanes = drop-cons lanes row d within ∙ ap (λ l. l ∷ drop (suc row) lanes) (sym is) ∙ ap (λ k. lane ∷ drop k lanes) one_more in
    let goal : row_from row (drop row lanes) a ≡ cond (lane.affinity == a) row (row_from (row + 1) (drop (row + 1) lanes) a)
    = ap (λ ls. row_from row ls a) next in
    elim (cases_eq a lane.affinity) [
      | inl same ↦
          subst (λ x. get_or (set rows lane.affinity row) x 0 ≡ row) (sym same) (get_or-set_same rows lane.affinity row 0 inside)
          ∙ sym (goal ∙ ap (λ b. cond b row (row_from (row + 1) (drop (row + 1) lanes) a)) (same_tests lane.affinity a (sym same)))
      | inr other ↦
          get_or-set_other rows lane.affinity a row 0 other
          ∙ are a (subst (λ k. a < k) (length-set rows lane.affinity row) low)
          ∙ sym (goal ∙ ap (λ b. cond b row (row_from (row + 1) (drop (row + 1) lanes) a)) (other_tests lane.affinity a (λ e. other (sym e))))
    ]

-- the numbers of the affinities of messages, where that of none is behind them all
pub number_known : (affinity : Option ℕ) (none : ℕ) → ((a : ℕ) → affinity ≡ Some a → a < none) → unwrap_or affinity none < none + 1
number_known None none within = omega arith
number_known (Some a) none within = omega (arith, within a refl)

module _ (tree : List Node) (assigned : List Held) (none : ℕ) (behind : none ≡ length tree) where
  pub numbers_known : AreKnown tree assigned → All (λ n. n < none + 1) (map (number_or none) assigned)
  numbers_known known =
      All-map (λ n. n < none + 1) (number_or none) assigned (λ k d low.
      number_known (get_or assigned k d).affinity none (λ a is. omega (arith, (known k d low).affinity a is, behind)))

  pub numbers_are : map (number_or none) assigned ≡ affinities_of tree assigned
  unfolding affinities_of
  numbers_are = ap (λ n. map (number_or n) assigned) behind

-- a row is one of the lanes'
pub row_within : (row : ℕ) (lanes : List Lane) (a : ℕ) → row_from row lanes a ≤ row + length lanes
row_within row [] a = omega arith
row_within row (lane ∷ lanes) a = elim (cases_eq lane.affinity a) [
  | inl same ↦
      let at : row_from row (lane ∷ lanes) a ≡ row = ap (λ b. cond b row (row_from (row + 1) lanes a)) (same_tests lane.affinity a same) in
      omega (arith, at)
  | inr other ↦
      let at : row_from row (lane ∷ lanes) a ≡ row_from (row + 1) lanes a
      = ap (λ b. cond b row (row_from (row + 1) lanes a)) (other_tests lane.affinity a other) in
      omega (arith, at, row_within (row + 1) lanes a)
]

-- lanes that are all the same
pub all_same : (P : Lane → Type 0) (lane : Lane) → P lane → (k : ℕ) → All P (replicate k lane)
all_same P lane is zero = All-nil P
all_same P lane is (suc k) = All-cons P lane (replicate k lane) is (all_same P lane is k)

pub length_same : (lane : Lane) (k : ℕ) → length (replicate k lane) ≡ k
length_same lane zero = refl
length_same lane (suc k) = ap suc (length_same lane k)
