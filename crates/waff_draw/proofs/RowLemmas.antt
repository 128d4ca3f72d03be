-- The row of an affinity is that of its lane.
use Rattle.std.proofs.Common.{◌≡◌, ◌≢◌, ℕ, suc, ◌+◌, ◌-◌, ◌<◌, ◌≤◌, ◌==◌, cond, inl, inr, List, [], ◌∷◌, Some, slice_get, arith, ◌∙◌, ap, subst}
use Rattle.std.proofs.lemmas.Bool.{cases_eq}
use Rattle.waff_model.specs.Tree.{IsTree, Node}
use Rattle.waff_draw.specs.Lanes.{lanes_of, row_from}
use Rattle.waff_draw.specs.Laws.{RowIsOfLane}
use Rattle.waff_draw.specs.declared.lanes.Lane.{Lane}
use Rattle.waff_draw.proofs.LaneLemmas.{other_tests, same_tests}
use Rattle.waff_draw.proofs.PreorderLemmas.{count_cons, count_of, lane_is_one}

-- it is among those behind, where the first is of another
further : (a : ℕ) (x : Lane) (xs : List Lane) → x.affinity ≢ a → 0 < count_of a (x ∷ xs) → 0 < count_of a xs
further a x xs other some =
    let none : cond {A = ℕ} (x.affinity == a) 1 0 ≡ 0 = ap (λ b. cond b 1 0) (other_tests x.affinity a other) in
    omega (arith, some, count_cons a x xs, none)

row_found : (row : ℕ) (lanes : List Lane) (a : ℕ) → 0 < count_of a lanes
    → (lane : Lane) × (slice_get lanes (row_from row lanes a - row) ≡ Some lane) × (lane.affinity ≡ a) × (row ≤ row_from row lanes a)
row_found row [] a some = absurd (omega (arith, some))
row_found row (x ∷ xs) a some =
    elim (cases_eq x.affinity a) [
      | inl same ↦
          let at : row_from row (x ∷ xs) a ≡ row = ap (λ b. cond b row (row_from (row + 1) xs a)) (same_tests x.affinity a same) in
          let off : row_from row (x ∷ xs) a - row ≡ 0 = omega (arith, at) in
          (x, ap (slice_get (x ∷ xs)) off, same, omega (arith, at))
      | inr other ↦
          let r = row_from (row + 1) xs a in
          let at : row_from row (x ∷ xs) a ≡ r = ap (λ b. cond b row r) (other_tests x.affinity a other) in
          let found = row_found (row + 1) xs a (further a x xs other some) in
          let off : row_from row (x ∷ xs) a - row ≡ suc (r - (row + 1)) = omega (arith, at, found.3) in
          (found.0, ap (slice_get (x ∷ xs)) off ∙ found.1, found.2, omega (arith, at, found.3))
    ]

pub row_is_of_lane : (tree : List Node) (assigned : List ℕ) → IsTree tree → RowIsOfLane tree assigned
row_is_of_lane tree assigned is a low has =
    let lanes = lanes_of tree assigned in
    let once : count_of a lanes ≡ 1 = lane_is_one tree assigned is a low ∙ ap (λ b. cond b 1 0) has in
    let found = row_found 0 lanes a (omega (arith, once)) in
    let off : row_from 0 lanes a - 0 ≡ row_from 0 lanes a = omega arith in
    (found.0, subst (λ n. slice_get lanes n ≡ Some found.0) off found.1, found.2)
