-- Affinities in preorder: none is lost, and each stands before those behind it.
use Rattle.std.proofs.Common.{◌≡◌, ◌≢◌, ℕ, suc, ◌+◌, ◌<◌, ◌≤◌, ◌⊎◌, All, AllPairs, Bool, IsPermutation, cond, true, false, inl, inr, List, [], ◌∷◌, get_or, length, arith, sym, ◌∙◌, ap, subst}
use Rattle.std.specs.List.{filter, range_with_len}
use Rattle.std.specs.Ordering.{is_lt, ordering_reverse}
use Rattle.std.proofs.lemmas.Cmp.{nat_list_cmp_total}
use Rattle.std.proofs.lemmas.List.Elements.{All-cons, All-filter, All-tail}
use Rattle.std.proofs.lemmas.List.FromFn.{get_or-range_with_len, length-range_with_len}
use Rattle.std.proofs.lemmas.List.Kept.{AllPairs-cons, AllPairs-filter}
use Rattle.std.proofs.lemmas.List.Sorted.{All-permutation, IsPermutation-cons, IsPermutation-middle, IsPermutation-refl, IsPermutation-trans}
use Rattle.waff_model.specs.Tree.{IsRooted, Node}
use Rattle.waff_draw.specs.Lanes.{in_preorder, is_among, is_before, path_of, put, used_from}
use Rattle.waff_draw.proofs.PathLemmas.{Before, before_of, either}

-- the numbers of a range
pub range_known : (from count : ℕ) → All (λ x. (from ≤ x) × (x < from + count)) (range_with_len from count)
range_known from count i d low =
    let inside : i < count = omega (arith, low, length-range_with_len from count) in
    subst (λ x. (from ≤ x) × (x < from + count)) (sym (get_or-range_with_len from count i d inside)) (omega arith, omega (arith, inside))

range_rises : (from count : ℕ) → AllPairs (λ x y. x < y) (range_with_len from count)
range_rises from count i j d before low =
    let inside : j < count = omega (arith, low, length-range_with_len from count) in
    omega (arith, get_or-range_with_len from count i d (omega (arith, inside, before)), get_or-range_with_len from count j d inside, before)

module _ (tree : List Node) where
  put_by : (b : Bool) (a x : ℕ) (xs : List ℕ) → IsPermutation (a ∷ xs) (put tree a xs)
      → IsPermutation (a ∷ x ∷ xs) (cond b (a ∷ x ∷ xs) (x ∷ put tree a xs))
  put_by true a x xs more = IsPermutation-refl (a ∷ x ∷ xs)
  put_by false a x xs more =
      IsPermutation-trans (a ∷ x ∷ xs) (x ∷ a ∷ xs) (x ∷ put tree a xs) (IsPermutation-middle (a ∷ []) x xs) (IsPermutation-cons x (a ∷ xs) (put tree a xs) more)

  put_moves : (a : ℕ) (xs : List ℕ) → IsPermutation (a ∷ xs) (put tree a xs)
  put_moves a [] = IsPermutation-refl (a ∷ [])
  put_moves a (x ∷ xs) = put_by (is_before tree a x) a x xs (put_moves a xs)

  pub preorder_moves : (xs : List ℕ) → IsPermutation xs (in_preorder tree xs)
  preorder_moves [] = IsPermutation-refl []
  preorder_moves (x ∷ xs) =
      IsPermutation-trans (x ∷ xs) (x ∷ in_preorder tree xs) (put tree x (in_preorder tree xs)) (IsPermutation-cons x xs (in_preorder tree xs) (preorder_moves xs))
      (put_moves x (in_preorder tree xs))

  -- where one that is put stands
  pub put_before : (a x : ℕ) (xs : List ℕ) → Before tree a x → put tree a (x ∷ xs) ≡ a ∷ x ∷ xs
  put_before a x xs is = ap (λ o. cond (is_lt o) (a ∷ x ∷ xs) (x ∷ put tree a xs)) is

  pub put_behind : (a x : ℕ) (xs : List ℕ) → Before tree x a → put tree a (x ∷ xs) ≡ x ∷ put tree a xs
  put_behind a x xs is =
      ap (λ o. cond (is_lt o) (a ∷ x ∷ xs) (x ∷ put tree a xs))
      (nat_list_cmp_total.antisymm (path_of tree a) (path_of tree x) ∙ ap ordering_reverse is)

  -- an affinity that is not a
  abbrev pub IsOther : ℕ → ℕ → Type 0
  IsOther a x = (x < length tree) × (a ≢ x)

  -- those of a range that have a message
  pub used_all : (P : ℕ → Type 0) (assigned : List ℕ) (from count : ℕ) → ((x : ℕ) → from ≤ x → x < from + count → P x)
      → All P (used_from tree assigned from count)
  used_all P assigned from count each =
      let all = range_with_len from count in
      All-permutation P (filter (is_among assigned) all) (used_from tree assigned from count) (preorder_moves (filter (is_among assigned) all))
      (All-filter (is_among assigned) P all
      (λ i d low. let is = range_known from count i d low in each (get_or all i d) is.0 is.1))

module _ (tree : List Node) (rooted : IsRooted tree) where
  sides : (a b : ℕ) → a < length tree → b < length tree → a ≢ b → Before tree a b ⊎ Before tree b a
  sides a b low_a low_b other = elim (either tree rooted a b low_a low_b other) [
    | inl is ↦ inl (before_of tree rooted a b is)
    | inr is ↦ inr (before_of tree rooted b a is)
  ]

  rises_put : (a : ℕ) (xs : List ℕ) → a < length tree → All (IsOther tree a) xs → AllPairs (Before tree) xs → AllPairs (Before tree) (put tree a xs)
  rises_put a [] low others up = λ i j d before few. absurd (omega (arith, before, few))
  rises_put a (x ∷ xs) low others up =
      let first : All (Before tree x) xs = λ k d few. up 0 (suc k) d (omega arith) (omega (arith, few)) in
      let rest : AllPairs (Before tree) xs = λ i j d before few. up (suc i) (suc j) d (omega (arith, before)) (omega (arith, few)) in
      let (low_x, other) = others 0 x (omega arith) in
      elim (sides a x low low_x other) [
        | inl before ↦ subst (AllPairs (Before tree)) (sym (put_before tree a x xs before))
            (AllPairs-cons (Before tree) a (x ∷ xs) (All-cons (Before tree a) x xs before
            (λ k d few. nat_list_cmp_total.trans (path_of tree a) (path_of tree x) (path_of tree (get_or xs k d)) before (first k d few))) up)
        | inr behind ↦ subst (AllPairs (Before tree)) (sym (put_behind tree a x xs behind))
            (AllPairs-cons (Before tree) x (put tree a xs)
            (All-permutation (Before tree x) (a ∷ xs) (put tree a xs) (put_moves tree a xs) (All-cons (Before tree x) a xs behind first))
            (rises_put a xs low (All-tail (IsOther tree a) x xs others) rest))
      ]

  rises : (xs : List ℕ) → All (λ x. x < length tree) xs → AllPairs (λ x y. x < y) xs → AllPairs (Before tree) (in_preorder tree xs)
  rises [] known up = λ i j d before few. absurd (omega (arith, few))
  rises (x ∷ xs) known up =
      rises_put x (in_preorder tree xs) (known 0 x (omega arith))
      (All-permutation (IsOther tree x) xs (in_preorder tree xs) (preorder_moves tree xs)
      (λ k d few. (known (suc k) d (omega (arith, few)), λ e. omega (arith, e, up 0 (suc k) d (omega arith) (omega (arith, few))))))
      (rises xs (All-tail (λ x. x < length tree) x xs known) (λ i j d before few. up (suc i) (suc j) d (omega (arith, before)) (omega (arith, few))))

  pub used_rises : (assigned : List ℕ) → AllPairs (Before tree) (used_from tree assigned 0 (length tree))
  used_rises assigned =
      let all = range_with_len 0 (length tree) in
      rises (filter (is_among assigned) all)
      (All-filter (is_among assigned) (λ x. x < length tree) all (λ i d low. omega (arith, (range_known 0 (length tree) i d low).1)))
      (AllPairs-filter (λ x y. x < y) (is_among assigned) all (range_rises 0 (length tree)))
