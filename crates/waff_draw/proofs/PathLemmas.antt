-- Paths from the root, and which of two affinities stands before the other in preorder.
use Rattle.std.proofs.Common.{◌≡◌, ◌≢◌, ℕ, zero, suc, ◌+◌, ◌-◌, ◌<◌, ◌≤◌, ◌⊎◌, inl, inr, Less, List, [], ◌∷◌, ◌++◌, Option, Some, None, length, length-append, append_assoc, arith, refl, sym, ◌∙◌, ap, ap₂, subst}
use Rattle.std.specs.Cmp.Lexicographic.{slice_cmp}
use Rattle.std.specs.Ordering.{is_lt, nat_cmp, ordering_reverse, ordering_then}
use Rattle.std.specs.Prelude.{option_map, unwrap_or}
use Rattle.std.specs.Cmp.{nat_cmp_is}
use Rattle.std.proofs.lemmas.Bool.{cases_order, true≢false}
use Rattle.std.proofs.lemmas.Cmp.{nat_cmp_total, nat_list_cmp_total, tied_itself}
use Rattle.waff_model.specs.Tree.{AtOrAbove, IsRooted, Leads, Node, parent_of}
use Rattle.waff_model.proofs.TreeLemmas.{above_child, earlier, reflexive, some_of}
use Rattle.waff_draw.specs.Lanes.{path_from, path_of}

-- the path of a stands before that of b
abbrev pub Before : List Node → ℕ → ℕ → Type 0
Before tree a b = slice_cmp nat_cmp (path_of tree a) (path_of tree b) ≡ Less

pub not_both : (tree : List Node) (a b : ℕ) → Before tree a b → Before tree b a → ⊥
not_both tree a b one other =
    true≢false (sym (ap is_lt one) ∙ ap is_lt (nat_list_cmp_total.antisymm (path_of tree a) (path_of tree b)) ∙ ap (λ o. is_lt (ordering_reverse o)) other)

pub less : (x y : ℕ) → x < y → nat_cmp x y ≡ Less
less x y before = sym (nat_cmp_is x y Less before)

-- a list that goes on behind another, and two lists that begin with the same
cmp_longer : (xs : List ℕ) (c : ℕ) (r : List ℕ) → slice_cmp nat_cmp xs (xs ++ c ∷ r) ≡ Less
cmp_longer [] c r = refl
cmp_longer (x ∷ xs) c r = ap (λ o. ordering_then o (slice_cmp nat_cmp xs (xs ++ c ∷ r))) (tied_itself nat_cmp_total x) ∙ cmp_longer xs c r

cmp_behind : (xs ys zs : List ℕ) → slice_cmp nat_cmp (xs ++ ys) (xs ++ zs) ≡ slice_cmp nat_cmp ys zs
cmp_behind [] ys zs = refl
cmp_behind (x ∷ xs) ys zs =
    ap (λ o. ordering_then o (slice_cmp nat_cmp (xs ++ ys) (xs ++ zs))) (tied_itself nat_cmp_total x) ∙ cmp_behind xs ys zs

-- a stands in the branch of a child x of p, and b in that of a later child y
abbrev pub AreBranches : List Node → ℕ → ℕ → Type 0
AreBranches tree a b =
    (x : ℕ) × (y : ℕ) × (p : ℕ) × (x < y) × (parent_of tree x ≡ Some p) × (parent_of tree y ≡ Some p) × AtOrAbove tree x a × AtOrAbove tree y b

-- b stands behind a: below it, or in a later branch
abbrev pub Precedes : List Node → ℕ → ℕ → Type 0
Precedes tree a b = ((a ≢ b) × AtOrAbove tree a b) ⊎ AreBranches tree a b

abbrev Either : List Node → ℕ → ℕ → Type 0
Either tree a b = Precedes tree a b ⊎ Precedes tree b a

module _ (tree : List Node) (rooted : IsRooted tree) where
  -- the path to b from what its parent is
  abbrev path_by : ℕ → ℕ → Option ℕ → List ℕ
  path_by n b parent = unwrap_or (option_map (λ p. path_from tree n p ++ b ∷ []) parent) []

  pub path_top : (n b : ℕ) → parent_of tree b ≡ None → path_from tree n b ≡ []
  path_top zero b none = refl
  path_top (suc n) b none = ap (path_by n b) none

  none_at : (b : ℕ) → b ≤ 0 → parent_of tree b ≡ None
  none_at zero top = rooted.root
  none_at (suc b) top = absurd (omega (arith, top))

  same_by : (n m b : ℕ) (o : Option ℕ) → parent_of tree b ≡ o → ((p : ℕ) → p < b → path_from tree n p ≡ path_from tree m p) → path_by n b o ≡ path_by m b o
  same_by n m b None is rest = refl
  same_by n m b (Some p) is rest = ap (λ xs. xs ++ b ∷ []) (rest p (rooted.earlier b p is))

  -- more steps than there are change nothing
  path_enough : (n m b : ℕ) → b ≤ n → b ≤ m → path_from tree n b ≡ path_from tree m b
  path_enough zero m b one other = sym (path_top m b (none_at b one))
  path_enough (suc n) zero b one other = path_top (suc n) b (none_at b other)
  path_enough (suc n) (suc m) b one other =
      same_by n m b (parent_of tree b) refl (λ p up. path_enough n m p (omega (arith, up, one)) (omega (arith, up, other)))

  pub path_step : (b p : ℕ) → parent_of tree b ≡ Some p → path_of tree b ≡ path_of tree p ++ b ∷ []
  path_step b p is =
      let up : p < b = rooted.earlier b p is in
      let next : b ≡ suc (b - 1) = omega (arith, up) in
      ap (λ n. path_from tree n b) next ∙ ap (path_by (b - 1) b) is
      ∙ ap (λ xs. xs ++ b ∷ []) (path_enough (b - 1) p p (omega (arith, up)) (omega arith))

  pub length_step : (b p : ℕ) → parent_of tree b ≡ Some p → length (path_of tree b) ≡ suc (length (path_of tree p))
  length_step b p is = let long = length-append (path_of tree p) (b ∷ []) in omega (arith, ap length (path_step b p is), long)

  -- the path of what is below goes on behind that of what is above
  below : (n a b : ℕ) → Leads tree n a b → (a ≡ b) ⊎ ((c : ℕ) × (r : List ℕ) × (path_of tree b ≡ path_of tree a ++ c ∷ r))
  below zero a b same = inl same
  below (suc n) a b (p, parent, leads) = elim (below n a p leads) [
    | inl same ↦ inr (b, [], path_step b p parent ∙ ap (λ x. path_of tree x ++ b ∷ []) (sym same))
    | inr (c, r, is) ↦ inr (c, r ++ b ∷ [], path_step b p parent ∙ ap (λ xs. xs ++ b ∷ []) is ∙ append_assoc (path_of tree a) (c ∷ r) (b ∷ []))
  ]

  in_branch : (x p a : ℕ) → parent_of tree x ≡ Some p → AtOrAbove tree x a → (r : List ℕ) × (path_of tree a ≡ path_of tree p ++ x ∷ r)
  in_branch x p a parent (n, leads) = elim (below n x a leads) [
    | inl same ↦ ([], ap (path_of tree) (sym same) ∙ path_step x p parent)
    | inr (c, r, is) ↦ (c ∷ r, is ∙ ap (λ xs. xs ++ c ∷ r) (path_step x p parent) ∙ append_assoc (path_of tree p) (x ∷ []) (c ∷ r))
  ]

  pub before_of : (a b : ℕ) → Precedes tree a b → Before tree a b
  before_of a b (inl (other, (n, leads))) = elim (below n a b leads) [
    | inl same ↦ absurd (other same)
    | inr (c, r, is) ↦ ap (slice_cmp nat_cmp (path_of tree a)) is ∙ cmp_longer (path_of tree a) c r
  ]
  before_of a b (inr (x, y, p, before, first, second, above_a, above_b)) =
      let (r, one) = in_branch x p a first above_a in
      let (s, other) = in_branch y p b second above_b in
      ap₂ (slice_cmp nat_cmp) one other ∙ cmp_behind (path_of tree p) (x ∷ r) (y ∷ s) ∙ ap (λ o. ordering_then o (slice_cmp nat_cmp r s)) (less x y before)

  -- what is below q is below a child of it
  child_of : (n q a : ℕ) → Leads tree n q a → (q ≡ a) ⊎ ((x : ℕ) × (parent_of tree x ≡ Some q) × AtOrAbove tree x a)
  child_of zero q a same = inl same
  child_of (suc n) q a (p, parent, leads) = elim (child_of n q p leads) [
    | inl same ↦ inr (a, parent ∙ ap (λ x. Some x) (sym same), reflexive tree a)
    | inr (x, is, above) ↦ inr (x, is, above_child tree x a p parent above)
  ]

  -- a and the parent of b tell of a and b, which is later
  later : (a b q : ℕ) → a < b → parent_of tree b ≡ Some q → (a ≡ q) ⊎ Either tree a q → Either tree a b
  later a b q order parent (inl same) = inl (inl (λ e. omega (arith, e, order), (1, (q, parent, same))))
  later a b q order parent (inr (inl (inl (other, above)))) = inl (inl (λ e. omega (arith, e, order), above_child tree a b q parent above))
  later a b q order parent (inr (inl (inr (x, y, p, before, first, second, above_a, above_q)))) =
      inl (inr (x, y, p, before, first, second, above_a, above_child tree y b q parent above_q))
  later a b q order parent (inr (inr (inl (other, (n, leads))))) = elim (child_of n q a leads) [
    | inl same ↦ absurd (other same)
    | inr (x, is, above) ↦ inl (inr (x, b, q, omega (arith, earlier tree rooted x a above, order), is, parent, above, reflexive tree b))
  ]
  later a b q order parent (inr (inr (inr (x, y, p, before, first, second, above_q, above_a)))) =
      inr (inr (x, y, p, before, first, second, above_child tree x b q parent above_q, above_a))

  swapped : (a b : ℕ) → Either tree a b → Either tree b a
  swapped a b (inl h) = inr h
  swapped a b (inr h) = inl h

  compared : (n a b : ℕ) → a + b < n → a < length tree → b < length tree → (a ≡ b) ⊎ Either tree a b
  compared zero a b few low_a low_b = absurd (omega (arith, few))
  compared (suc n) a b few low_a low_b = elim (cases_order a b) [
    | inl same ↦ inl same
    | inr (inl before) ↦
        let (q, parent) = some_of (parent_of tree b) (rooted.others b (omega (arith, before)) low_b) in
        let up : q < b = rooted.earlier b q parent in
        inr (later a b q before parent (compared n a q (omega (arith, few, up)) low_a (omega (arith, up, low_b))))
    | inr (inr behind) ↦
        let (q, parent) = some_of (parent_of tree a) (rooted.others a (omega (arith, behind)) low_a) in
        let up : q < a = rooted.earlier a q parent in
        inr (swapped b a (later b a q behind parent (compared n b q (omega (arith, few, up)) low_b (omega (arith, up, low_a)))))
  ]

  -- of two affinities one stands before the other
  pub either : (a b : ℕ) → a < length tree → b < length tree → a ≢ b → Either tree a b
  either a b low_a low_b other = elim (compared (suc (a + b)) a b (omega arith) low_a low_b) [
    | inl same ↦ absurd (other same)
    | inr is ↦ is
  ]

  -- a path is as long as its affinity is steps below the root
  deep : (n b : ℕ) → b < n → b < length tree → Leads tree (length (path_of tree b)) 0 b
  deep zero b few low = absurd (omega (arith, few))
  deep (suc n) zero few low = refl
  deep (suc n) (suc k) few low =
      let (p, parent) = some_of (parent_of tree (suc k)) (rooted.others (suc k) (omega arith) low) in
      let up : p < suc k = rooted.earlier (suc k) p parent in
      subst (λ d. Leads tree d 0 (suc k)) (sym (length_step (suc k) p parent))
      (p, parent, deep n p (omega (arith, up, few)) (omega (arith, up, low)))

  pub depth_leads : (b : ℕ) → b < length tree → Leads tree (length (path_of tree b)) 0 b
  depth_leads b low = deep (suc b) b (omega arith) low

  leads_short : (n a b : ℕ) → Leads tree n a b → n ≤ b
  leads_short zero a b leads = omega arith
  leads_short (suc n) a b (p, parent, leads) = omega (arith, rooted.earlier b p parent, leads_short n a p leads)

  pub path_short : (b : ℕ) → b < length tree → length (path_of tree b) ≤ b
  path_short b low = leads_short (length (path_of tree b)) 0 b (depth_leads b low)
