-- The places of a tree's affinities are in the order of their paths.
use Rattle.std.proofs.Common.{◌≡◌, All, ℕ, suc, ◌+◌, ◌-◌, ◌<◌, ◌≤◌, Bool, cond, true, false, inl, inr, None, Ordering, List, [], ◌∷◌, get_or, length, map, arith, refl, sym, ◌∙◌, ap, ap₂}
use Rattle.std.specs.BTreeMap.{insert_entry}
use Rattle.std.specs.List.{filter, range_with_len}
use Rattle.std.specs.Ordering.{match_ordering, nat_cmp, ordering_reverse}
use Rattle.std.proofs.lemmas.Bool.{cases_lt}
use Rattle.std.proofs.lemmas.Cmp.{nat_cmp_total}
use Rattle.std.proofs.lemmas.List.{get_or_default}
use Rattle.std.proofs.lemmas.List.Elements.{All-tail}
use Rattle.waff_model.specs.Preorder.{AreNested, span_at}
use Rattle.waff_model.specs.Tree.{IsRooted, Node}
use Rattle.waff_model.specs.declared.preorder.Span.{Span}
use Rattle.waff_model.proofs.TreeLemmas.{earlier}
use Rattle.waff_draw.specs.Lanes.{in_preorder, is_among, lane_in, lane_of, path_of, put, used_from}
use Rattle.waff_draw.specs.declared.lanes.Lane.{Lane}
use Rattle.waff_draw.proofs.OrderLemmas.{IsOther, put_before, put_behind}
use Rattle.waff_draw.proofs.PathLemmas.{Precedes, before_of, either, less}

-- the entry of an affinity at its place
abbrev pub entry : List Node → List Span → ℕ → ℕ × Lane
entry tree spans a = ((span_at spans a).first, lane_in tree a)

module _ (tree : List Node) (spans : List Span) (rooted : IsRooted tree) (nested : AreNested tree spans) where
  abbrev first_of : ℕ → ℕ
  first_of a = (span_at spans a).first

  -- what stands before has the lower place
  lower : (a b : ℕ) → a < length tree → b < length tree → Precedes tree a b → first_of a < first_of b
  lower a b low_a low_b (inl (other, above)) =
      let spanned = (nested.tells a b low_a low_b).1 above in
      elim (cases_lt (first_of a) (first_of b)) [
        | inl less ↦ less
        | inr not ↦
            let back = (nested.tells b a low_b low_a).0 (omega (arith, not), omega (arith, not, nested.filled b low_b)) in
            absurd (other (omega (arith, earlier tree rooted a b above, earlier tree rooted b a back)))
      ]
  lower a b low_a low_b (inr (x, y, p, before, first, second, above_a, above_b)) =
      let low_x : x < length tree = omega (arith, earlier tree rooted x a above_a, low_a) in
      let low_y : y < length tree = omega (arith, earlier tree rooted y b above_b, low_b) in
      omega (arith, ((nested.tells x a low_x low_a).1 above_a).1, nested.ordered x y p before low_y first second, ((nested.tells y b low_y low_b).1 above_b).0)

  -- one more at its place
  pub put_entry : (a : ℕ) (xs : List ℕ) → a < length tree → All (IsOther tree a) xs
      → insert_entry nat_cmp (map (entry tree spans) xs) (first_of a) (lane_in tree a) ≡ map (entry tree spans) (put tree a xs)
  put_entry a [] low others = refl
  put_entry a (x ∷ xs) low others =
      let other = others 0 x (omega arith) in
      let es = map (entry tree spans) xs in
      let cases : Ordering → List (ℕ × Lane) = λ o. match_ordering o (entry tree spans a ∷ entry tree spans x ∷ es) ((first_of x, lane_in tree a) ∷ es)
      (entry tree spans x ∷ insert_entry nat_cmp es (first_of a) (lane_in tree a)) in
      elim (either tree rooted a x low other.0 other.1) [
        | inl is ↦
            ap cases (less (first_of a) (first_of x) (lower a x low other.0 is))
            ∙ sym (ap (map (entry tree spans)) (put_before tree a x xs (before_of tree rooted a x is)))
        | inr is ↦
            ap cases (nat_cmp_total.antisymm (first_of a) (first_of x) ∙ ap ordering_reverse (less (first_of x) (first_of a) (lower x a other.0 low is)))
            ∙ ap (λ rest. entry tree spans x ∷ rest) (put_entry a xs low (All-tail (IsOther tree a) x xs others))
            ∙ sym (ap (map (entry tree spans)) (put_behind tree a x xs (before_of tree rooted x a is)))
      ]

  -- where its place and its depth were read
  pub put_read : (a depth : ℕ) (read : Span) (xs : List ℕ) (before now : List (ℕ × Lane)) → a < length tree → All (IsOther tree a) xs
      → depth ≡ length (path_of tree a) → before ≡ map (entry tree spans) xs
      → now ≡ insert_entry nat_cmp before (get_or spans a read).first (lane_of a depth) → now ≡ map (entry tree spans) (put tree a xs)
  put_read a depth read xs before now low others deep are is =
      let span = get_or_default spans a read (record { parent = None; first = 0; end = 0 }) (omega (arith, low, nested.count)) in
      is ∙ ap (λ es. insert_entry nat_cmp es (get_or spans a read).first (lane_of a depth)) are
      ∙ ap₂ (λ (s : Span) d. insert_entry nat_cmp (map (entry tree spans) xs) s.first (lane_of a d)) span deep
      ∙ put_entry a xs low others

-- one more of those that have a message, the one before the k-th
module _ (tree : List Node) (assigned : List ℕ) (k n : ℕ) (some : 0 < k) (low : k ≤ n) where
  used_by : (t : Bool) → is_among assigned (k - 1) ≡ t
      → used_from tree assigned (k - 1) (n - (k - 1)) ≡ in_preorder tree (cond t ((k - 1) ∷ filter (is_among assigned) (range_with_len k (n - k))) (filter (is_among assigned) (range_with_len k (n - k))))
  used_by t is =
      let more : n - (k - 1) ≡ suc (n - k) = omega (arith, some, low) in
      let next : k - 1 + 1 ≡ k = omega (arith, some) in
      let rest : ℕ → List ℕ = λ from. filter (is_among assigned) (range_with_len from (n - k)) in
      ap (used_from tree assigned (k - 1)) more
      ∙ ap (λ from. in_preorder tree (cond (is_among assigned (k - 1)) ((k - 1) ∷ rest from) (rest from))) next
      ∙ ap (λ u. in_preorder tree (cond u ((k - 1) ∷ rest k) (rest k))) is

  pub used_put : is_among assigned (k - 1) ≡ true → used_from tree assigned (k - 1) (n - (k - 1)) ≡ put tree (k - 1) (used_from tree assigned k (n - k))
  used_put is = used_by true is

  pub used_same : is_among assigned (k - 1) ≡ false → used_from tree assigned (k - 1) (n - (k - 1)) ≡ used_from tree assigned k (n - k)
  used_same is = used_by false is
