-- The affinities that have a message in them or below them.
use Rattle.std.proofs.Common.{◌≡◌, ℕ, zero, suc, ◌+◌, ◌<◌, ◌⊎◌, Bool, true, false, inl, inr, cond, ◌==◌, ◌||◌, List, [], ◌∷◌, ◌++◌, Option, Some, None, length, arith, refl, sym, ◌∙◌, ap, subst}
use Rattle.std.proofs.lemmas.Bool.{cases_eq, or_cases, or_left, or_right, true≢false}
use Rattle.std.proofs.lemmas.List.Folds.{list_any-append}
use Rattle.waff_model.specs.Tree.{AtOrAbove, IsRooted, Leads, Node, parent_of}
use Rattle.waff_model.proofs.TreeLemmas.{above_child, reflexive}
use Rattle.waff_draw.specs.Lanes.{is_among, used_below, way_to}
use Rattle.waff_draw.proofs.LaneLemmas.{other_tests, same_tests}
use Rattle.waff_draw.proofs.WayLemmas.{way_from, way_if, way_step, ways_more, ways_to}

tested : (a b : ℕ) → ((a == b) || false) ≡ true → a ≡ b
tested a b h = elim (cases_eq a b) [
  | inl same ↦ same
  | inr other ↦ absurd (true≢false (sym h ∙ ap (λ t. t || false) (other_tests a b other)))
]

last_of : (xs : List ℕ) (a b : ℕ) → is_among (xs ++ a ∷ []) b ≡ true → (is_among xs b ≡ true) ⊎ (a ≡ b)
last_of xs a b h =
    elim (or_cases (is_among xs b) ((a == b) || false) (sym (list_any-append (λ x. x == b) xs (a ∷ [])) ∙ h)) [
      | inl one ↦ inl one
      | inr two ↦ inr (tested a b two)
    ]

module _ (tree : List Node) (rooted : IsRooted tree) where
  on_way_by : (a b : ℕ) → (o : Option ℕ) → parent_of tree a ≡ o → is_among (way_from tree o ++ a ∷ []) b ≡ true
      → ((p : ℕ) → p < a → is_among (way_to tree p) b ≡ true → AtOrAbove tree b p) → AtOrAbove tree b a
  on_way_by a b None is h rest = elim (last_of [] a b h) [
    | inl none ↦ absurd (true≢false (sym none))
    | inr same ↦ subst (λ x. AtOrAbove tree x a) same (reflexive tree a)
  ]
  on_way_by a b (Some p) is h rest = elim (last_of (way_to tree p) a b h) [
    | inl above ↦ above_child tree b a p is (rest p (rooted.earlier a p is) above)
    | inr same ↦ subst (λ x. AtOrAbove tree x a) same (reflexive tree a)
  ]

  on_way : (n a b : ℕ) → a < n → a < length tree → is_among (way_to tree a) b ≡ true → AtOrAbove tree b a
  on_way zero a b few low h = absurd (omega (arith, few))
  on_way (suc n) a b few low h =
      on_way_by a b (parent_of tree a) refl (sym (ap (λ ns. is_among ns b) (way_step tree rooted a low)) ∙ h)
      (λ p up above. on_way n p b (omega (arith, up, few)) (omega (arith, up, low)) above)

  from_way : (n a b : ℕ) → a < length tree → Leads tree n b a → is_among (way_to tree a) b ≡ true
  from_way zero a b low same =
      let before = way_from tree (parent_of tree a) in
      ap (λ ns. is_among ns b) (way_step tree rooted a low) ∙ list_any-append (λ x. x == b) before (a ∷ [])
      ∙ or_right (is_among before b) ((a == b) || false) (or_left (a == b) false (same_tests a b (sym same)))
  from_way (suc n) a b low (p, is, leads) =
      ap (λ ns. is_among ns b) (way_step tree rooted a low) ∙ ap (λ (o : Option ℕ). is_among (way_from tree o ++ a ∷ []) b) is
      ∙ list_any-append (λ x. x == b) (way_to tree p) (a ∷ [])
      ∙ or_left (is_among (way_to tree p) b) ((a == b) || false) (from_way n p b (omega (arith, rooted.earlier a p is, low)) leads)

-- one of the first k numbers is among these, and has b on its way
abbrev OnSomeWay : List Node → List ℕ → ℕ → ℕ → Type 0
OnSomeWay tree assigned k b = (a : ℕ) × (a < k) × (is_among assigned a ≡ true) × (is_among (way_to tree a) b ≡ true)

at_last : (tree : List Node) (assigned : List ℕ) (k b : ℕ) → (u : Bool) → is_among assigned k ≡ u
    → is_among (cond u (way_to tree k) []) b ≡ true → OnSomeWay tree assigned (suc k) b
at_last tree assigned k b true used h = (k, omega arith, used, h)
at_last tree assigned k b false used h = absurd (true≢false (sym h))

ways_next : (tree : List Node) (assigned : List ℕ) (k b : ℕ)
    → is_among (ways_to tree assigned (suc k)) b ≡ (is_among (ways_to tree assigned k) b || is_among (way_if tree assigned k) b)
ways_next tree assigned k b =
    let next : suc k ≡ k + 1 = omega arith in
    ap (λ n. is_among (ways_to tree assigned n) b) next ∙ ap (λ ns. is_among ns b) (ways_more tree assigned k)
    ∙ list_any-append (λ x. x == b) (ways_to tree assigned k) (way_if tree assigned k)

ways_have : (tree : List Node) (assigned : List ℕ) (k b : ℕ) → is_among (ways_to tree assigned k) b ≡ true → OnSomeWay tree assigned k b
ways_have tree assigned zero b h = absurd (true≢false (sym h))
ways_have tree assigned (suc k) b h =
    elim (or_cases (is_among (ways_to tree assigned k) b) (is_among (way_if tree assigned k) b) (sym (ways_next tree assigned k b) ∙ h)) [
      | inl one ↦ let (a, low, used, on) = ways_have tree assigned k b one in (a, omega (arith, low), used, on)
      | inr two ↦ at_last tree assigned k b (is_among assigned k) refl two
    ]

ways_from : (tree : List Node) (assigned : List ℕ) (k a b : ℕ) → a < k → is_among assigned a ≡ true
    → is_among (way_to tree a) b ≡ true → is_among (ways_to tree assigned k) b ≡ true
ways_from tree assigned zero a b low used on = absurd (omega (arith, low))
ways_from tree assigned (suc k) a b low used on =
    let so_far = is_among (ways_to tree assigned k) b in
    let last = is_among (way_if tree assigned k) b in
    ways_next tree assigned k b ∙ elim (cases_eq a k) [
      | inl same ↦
          let is : is_among assigned k ≡ true = subst (λ x. is_among assigned x ≡ true) same used in
          or_right so_far last (ap (λ u. is_among (cond u (way_to tree k) []) b) is ∙ subst (λ x. is_among (way_to tree x) b ≡ true) same on)
      | inr other ↦ or_left so_far last (ways_from tree assigned k a b (omega (arith, low, other)) used on)
    ]

-- what is used is below, and the other way round
pub used_is_below : (tree : List Node) (assigned : List ℕ) (b : ℕ) → IsRooted tree → is_among (used_below tree assigned) b ≡ true
    → (a : ℕ) × (a < length tree) × (is_among assigned a ≡ true) × AtOrAbove tree b a
used_is_below tree assigned b rooted h =
    let (a, low, used, on) = ways_have tree assigned (length tree) b h in
    (a, low, used, on_way tree rooted (suc a) a b (omega arith) low on)

pub below_is_used : (tree : List Node) (assigned : List ℕ) (a b : ℕ) → IsRooted tree → a < length tree → is_among assigned a ≡ true
    → AtOrAbove tree b a → is_among (used_below tree assigned) b ≡ true
below_is_used tree assigned a b rooted low used (n, leads) =
    ways_from tree assigned (length tree) a b low used (from_way tree rooted n a b low leads)
