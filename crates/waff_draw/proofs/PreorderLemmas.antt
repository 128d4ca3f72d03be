-- The lanes are in preorder: which they are, how deep each is, and what stands behind what.
use Rattle.std.proofs.Common.{◌≡◌, ℕ, zero, suc, ◌+◌, ◌<◌, ◌≤◌, ◌==◌, All, Bool, cond, true, false, inl, inr, List, ◌∷◌, get_or, length, map, arith, refl, sym, ◌∙◌, ap, subst}
use Rattle.std.specs.List.{count_by, filter, range_with_len}
use Rattle.std.proofs.lemmas.Bool.{cases_eq, cases_lt}
use Rattle.std.proofs.lemmas.List.{get_or-map, length-map}
use Rattle.std.proofs.lemmas.List.Elements.{All-map}
use Rattle.std.proofs.lemmas.List.FromFn.{length-range_with_len}
use Rattle.std.proofs.lemmas.List.Sorted.{IsPermutation-map, length_permutation, sum_by-IsPermutation}
use Rattle.std.proofs.lemmas.List.Sums.{count_by-le-length, length-filter, sum_by-cons}
use Rattle.waff_model.specs.Tree.{AtOrAbove, IsTree, Leads, Node}
use Rattle.waff_model.proofs.TreeLemmas.{reflexive, transitive}
use Rattle.waff_draw.specs.Lanes.{is_among, lane_in, lane_of, lanes_of, used_from}
use Rattle.waff_draw.specs.Laws.{DepthIsSteps, IsPreorder, LaneIsOne, affinity_at}
use Rattle.waff_draw.specs.declared.lanes.Lane.{Lane}
use Rattle.waff_draw.proofs.LaneLemmas.{other_tests, same_tests}
use Rattle.waff_draw.proofs.OrderLemmas.{preorder_moves, used_all, used_rises}
use Rattle.waff_draw.proofs.PathLemmas.{Before, before_of, depth_leads, either, not_both}

-- how many lanes are of the affinity a
abbrev pub count_of : ℕ → List Lane → ℕ
count_of a lanes = count_by (λ lane. lane.affinity == a) lanes

pub count_cons : (a : ℕ) (x : Lane) (xs : List Lane) → count_of a (x ∷ xs) ≡ cond (x.affinity == a) 1 0 + count_of a xs
count_cons a x xs = sum_by-cons (λ (lane : Lane). cond {A = ℕ} (lane.affinity == a) 1 0) x xs

module _ (tree : List Node) (q : ℕ → Bool) (a : ℕ) where
  -- those of a range that pass a test
  abbrev kept : ℕ → ℕ → List Lane
  kept from count = map (lane_in tree) (filter q (range_with_len from count))

  kept_by : (b : Bool) (x : ℕ) (xs : List ℕ) → count_of a (map (lane_in tree) (cond b (x ∷ xs) xs)) ≡ cond b (cond (x == a) 1 0) 0 + count_of a (map (lane_in tree) xs)
  kept_by true x xs = count_cons a (lane_in tree x) (map (lane_in tree) xs)
  kept_by false x xs = omega arith

  none_kept : (b : Bool) → cond {A = ℕ} b 0 0 ≡ 0
  none_kept true = refl
  none_kept false = refl

  -- the first of them
  count_other : (x count : ℕ) → (x == a) ≡ false → count_of a (kept x (suc count)) ≡ count_of a (kept (x + 1) count)
  count_other x count other =
      let here = ap (λ t. cond (q x) (cond {A = ℕ} t 1 0) 0) other ∙ none_kept (q x) in
      omega (arith, here, kept_by (q x) x (filter q (range_with_len (x + 1) count)))

  count_above : (from count : ℕ) → a < from → count_of a (kept from count) ≡ 0
  count_above from zero low = refl
  count_above from (suc count) low =
      count_other from count (other_tests from a (λ e. omega (arith, e, low))) ∙ count_above (from + 1) count (omega (arith, low))

  pub count_kept : (from count : ℕ) → from ≤ a → a < from + count → count_of a (kept from count) ≡ cond (q a) 1 0
  count_kept from zero low few = absurd (omega (arith, low, few))
  count_kept from (suc count) low few = elim (cases_eq from a) [
    | inl same ↦
        let here = ap (λ t. cond (q from) (cond {A = ℕ} t 1 0) 0) (same_tests from a same) ∙ ap (λ x. cond {A = ℕ} (q x) 1 0) same in
        omega (arith, here, kept_by (q from) from (filter q (range_with_len (from + 1) count)), count_above (from + 1) count (omega (arith, same)))
    | inr other ↦ count_other from count (other_tests from a other) ∙ count_kept (from + 1) count (omega (arith, low, other)) (omega (arith, few))
  ]

module _ (tree : List Node) (assigned : List ℕ) where
  abbrev used : List ℕ
  used = used_from tree assigned 0 (length tree)

  abbrev lanes : List Lane
  lanes = lanes_of tree assigned

  pub lane_is_one : IsTree tree → LaneIsOne tree assigned
  lane_is_one is a low =
      let all = filter (is_among assigned) (range_with_len 0 (length tree)) in
      sum_by-IsPermutation (λ (lane : Lane). cond {A = ℕ} (lane.affinity == a) 1 0) (map (lane_in tree) all) lanes (IsPermutation-map (lane_in tree) all used (preorder_moves tree all))
      ∙ count_kept tree (is_among assigned) a 0 (length tree) (omega arith) (omega (arith, low))

  used_known : All (λ x. x < length tree) used
  used_known = used_all tree (λ x. x < length tree) assigned 0 (length tree) (λ x from to. omega (arith, to))

  -- each lane is of an affinity
  pub lanes_known : All (λ (lane : Lane). lane.affinity < length tree) lanes
  lanes_known = All-map (λ (lane : Lane). lane.affinity < length tree) (lane_in tree) used used_known

  pub few_lanes : length lanes ≤ length tree
  few_lanes =
      let all = range_with_len 0 (length tree) in
      omega (
        arith,
        length-map used (lane_in tree),
        length_permutation (filter (is_among assigned) all) used (preorder_moves tree (filter (is_among assigned) all)),
        length-filter (is_among assigned) all,
        count_by-le-length (is_among assigned) all,
        length-range_with_len 0 (length tree),
      )

  module _ (is : IsTree tree) where
    pub depth_is_steps : DepthIsSteps tree assigned
    depth_is_steps =
        All-map (λ (lane : Lane). Leads tree lane.depth 0 lane.affinity) (lane_in tree) used
        (λ i d low. depth_leads tree is.rooted (get_or used i d) (used_known i d low))

    -- the affinity whose lane is in row i
    abbrev at : ℕ → ℕ
    at i = affinity_at lanes i

    -- each stands before those behind it
    lanes_rise : (i j : ℕ) → i < j → j < length lanes → Before tree (at i) (at j)
    lanes_rise i j before low =
        let inside : j < length used = omega (arith, low, length-map used (lane_in tree)) in
        let read : (k : ℕ) → k < length used → get_or used k 0 ≡ at k
        = λ k within. ap (λ (lane : Lane). lane.affinity) (sym (get_or-map (lane_in tree) used k 0 (lane_of 0 0) within)) in
        subst (λ x. Before tree x (at j)) (read i (omega (arith, before, inside)))
        (subst (λ y. Before tree (get_or used i 0) y) (read j inside) (used_rises tree is.rooted assigned i j 0 before inside))

    no_later : (i j : ℕ) → i < length lanes → (Before tree (at j) (at i) → ⊥) → i ≤ j
    no_later i j low not = elim (cases_lt j i) [
      | inl less ↦ absurd (not (lanes_rise j i less low))
      | inr upto ↦ omega (arith, upto)
    ]

    earlier : (i j : ℕ) → i < length lanes → Before tree (at i) (at j) → i < j
    earlier i j low before =
        let upto = no_later i j low (not_both tree (at i) (at j) before) in
        elim (cases_eq i j) [
          | inl same ↦
              let itself = subst (λ k. Before tree (at i) (at k)) (sym same) before in
              absurd (not_both tree (at i) (at i) itself itself)
          | inr other ↦ omega (arith, upto, other)
        ]

    behind : (i j : ℕ) → i < length lanes → j < length lanes → AtOrAbove tree (at i) (at j) → i ≤ j
    behind i j low_i low_j above =
        no_later i j low_i
        (λ up. elim (cases_eq (at i) (at j)) [
          | inl same ↦
              let itself = subst (λ x. Before tree (at j) x) same up in
              not_both tree (at j) (at j) itself itself
          | inr other ↦ not_both tree (at i) (at j) (before_of tree is.rooted (at i) (at j) (inl (other, above))) up
        ])

    between : (i k j : ℕ) → i ≤ k → k ≤ j → j < length lanes → AtOrAbove tree (at i) (at j) → AtOrAbove tree (at i) (at k)
    between i k j from to low above =
        let known : (r : ℕ) → r ≤ j → at r < length tree = λ r upto. lanes_known r (lane_of 0 0) (omega (arith, upto, low)) in
        elim (cases_eq (at i) (at k)) [
          | inl same ↦ subst (λ x. AtOrAbove tree (at i) x) same (reflexive tree (at i))
          | inr other ↦ elim (either tree is.rooted (at i) (at k) (known i (omega (arith, from, to))) (known k to) other) [
            | inl (inl (differ, higher)) ↦ higher
            | inl (inr (x, y, p, before, first, second, above_i, above_k)) ↦
                let lower = before_of tree is.rooted (at j) (at k) (inr (x, y, p, before, first, second, transitive tree x (at i) (at j) above_i above, above_k)) in
                absurd (omega (arith, to, earlier j k low lower))
            | inr up ↦ absurd (omega (arith, from, earlier k i (omega (arith, to, low)) (before_of tree is.rooted (at k) (at i) up)))
          ]
        ]

    pub lanes_in_preorder : IsPreorder tree lanes
    lanes_in_preorder = record {
      behind = behind;
      between = between;
      ordered = λ i j b c p low_i low_j first second before above_b above_c.
          earlier i j low_i (before_of tree is.rooted (at i) (at j) (inr (b, c, p, before, first, second, above_b, above_c)));
    }
