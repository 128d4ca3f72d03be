-- Places that nest as a tree's affinities do tell what is at or above what.
use Rattle.std.proofs.Common.{◌≡◌, ℕ, zero, suc, ◌+◌, ◌<◌, ◌≤◌, ◌⊎◌, ◌↔◌, inl, inr, List, length, get_or, Some, None, sym, subst, arith}
use Rattle.std.proofs.lemmas.Bool.{cases_order}
use Rattle.std.proofs.lemmas.List.{get_or_default}
use Rattle.waff_model.specs.Tree.{Node, parent_of, Leads, AtOrAbove, IsRooted}
use Rattle.waff_model.specs.declared.preorder.Span.{Span}
use Rattle.waff_model.specs.Preorder.{span_at, Spans, AreNested}
use Rattle.waff_model.proofs.TreeLemmas.{some_of, reflexive, above_child, above_parent, earlier}

-- a read of an affinity's place, whatever stands past the end
pub place_at_any : (spans : List Span) (b : ℕ) (p : Span) → b < length spans → get_or spans b p ≡ span_at spans b
place_at_any spans b p within = get_or_default spans b p (record { parent = None; first = 0; end = 0 }) within

-- spans in preorder: a child's lies in its parent's, after the parent's own place, and that of an earlier child before that of a later one
pub record AreSpans (tree : List Node) (spans : List Span) : Type 0 where
  pub count : length spans ≡ length tree
  pub parents : (b : ℕ) → b < length tree → (span_at spans b).parent ≡ parent_of tree b
  pub filled : (b : ℕ) → b < length tree → (span_at spans b).first < (span_at spans b).end
  pub few : (b : ℕ) → b < length tree → (span_at spans b).end ≤ length tree
  pub after : (b p : ℕ) → b < length tree → parent_of tree b ≡ Some p → (span_at spans p).first < (span_at spans b).first
  pub within : (b p : ℕ) → b < length tree → parent_of tree b ≡ Some p → (span_at spans b).end ≤ (span_at spans p).end
  pub apart : (b c p : ℕ) → b < c → c < length tree → parent_of tree b ≡ Some p → parent_of tree c ≡ Some p → (span_at spans b).end ≤ (span_at spans c).first

-- the places of q lie among those below p
abbrev Nests : Span → Span → Type 0
Nests p q = (p.first < q.first) × (q.end ≤ p.end)

-- p and q have no place in common
abbrev Apart : Span → Span → Type 0
Apart p q = (p.end ≤ q.first) ⊎ (q.end ≤ p.first)

apart_inside : (p q r : Span) → Nests p q → Apart p r → Apart q r
apart_inside p q r nests (inl before) = inl (omega arith)
apart_inside p q r nests (inr past) = inr (omega arith)

apart_swapped : (p q : Span) → Apart p q → Apart q p
apart_swapped p q (inl before) = inr before
apart_swapped p q (inr past) = inl past

module _ (tree : List Node) (spans : List Span) (rooted : IsRooted tree) (are : AreSpans tree spans) where
  nests_in_parent : (b p : ℕ) → b < length tree → parent_of tree b ≡ Some p → Nests (span_at spans p) (span_at spans b)
  nests_in_parent b p within parent = (are.after b p within parent, are.within b p within parent)

  leads_nested : (n a b : ℕ) → b < length tree → Leads tree n a b → (a ≡ b) ⊎ Nests (span_at spans a) (span_at spans b)
  leads_nested zero a b within same = inl same
  leads_nested (suc n) a b within (p, parent, leads) =
      let before : p < b = rooted.earlier b p parent in
      let inside = nests_in_parent b p within parent in
      inr (elim (leads_nested n a p (omega arith) leads) [
        | inl same ↦ subst (λ a. Nests (span_at spans a) (span_at spans b)) (sym same) inside
        | inr nests ↦ (omega arith, omega arith)
      ])

  -- two affinities are one at or above the other, or apart
  abbrev Related : ℕ → ℕ → Type 0
  Related a b = AtOrAbove tree a b ⊎ (AtOrAbove tree b a ⊎ Apart (span_at spans a) (span_at spans b))

  related_swapped : (a b : ℕ) → Related a b → Related b a
  related_swapped a b (inl above) = inr (inl above)
  related_swapped a b (inr (inl below)) = inl below
  related_swapped a b (inr (inr apart)) = inr (inr (apart_swapped (span_at spans a) (span_at spans b) apart))

  -- the parent q of b is at or above a, which stands before b
  related_below_parent : (a b q : ℕ) → a < b → b < length tree → parent_of tree b ≡ Some q → AtOrAbove tree q a → ((x : ℕ) → x < a → Related x b) → Related a b
  related_below_parent a b q order within parent (zero, same) below =
      inl (above_child tree a b q parent (subst (λ q. AtOrAbove tree a q) (sym same) (reflexive tree a)))
  related_below_parent a b q order within parent (suc n, (r, parent_r, leads)) below =
      let before : r < a = rooted.earlier a r parent_r in
      elim (cases_order r q) [
        | inl same ↦ inr (inr (inl (are.apart a b r order within parent_r (subst (λ q. parent_of tree b ≡ Some q) (sym same) parent))))
        | inr other ↦ elim (below r before) [
          | inl above ↦
              let one : r ≤ q = earlier tree rooted r q (above_parent tree r b q (λ same. omega arith) parent above) in
              let two : q ≤ r = earlier tree rooted q r (n, leads) in
              elim other [ inl less ↦ absurd (omega arith) | inr more ↦ absurd (omega arith) ]
          | inr (inl under) ↦ let three : b ≤ r = earlier tree rooted b r under in absurd (omega arith)
          | inr (inr apart) ↦ inr (inr (apart_inside (span_at spans r) (span_at spans a) (span_at spans b) (nests_in_parent a r (omega arith) parent_r) apart))
        ]
      ]

  related_before : (a b : ℕ) → a < b → b < length tree → ((x y : ℕ) → x + y < a + b → x < length tree → y < length tree → Related x y) → Related a b
  related_before a b order within below =
      let (q, parent) = some_of (parent_of tree b) (rooted.others b (omega arith) within) in
      let before : q < b = rooted.earlier b q parent in
      elim (below a q (omega arith) (omega arith) (omega arith)) [
        | inl above ↦ inl (above_child tree a b q parent above)
        | inr (inl under) ↦ related_below_parent a b q order within parent under (λ x less. below x b (omega arith) (omega arith) within)
        | inr (inr apart) ↦ inr (inr (apart_swapped (span_at spans b) (span_at spans a) (apart_inside (span_at spans q) (span_at spans b) (span_at spans a) (nests_in_parent b q within parent) (apart_swapped (span_at spans a) (span_at spans q) apart))))
      ]

  related : (n a b : ℕ) → a + b < n → a < length tree → b < length tree → Related a b
  related zero a b few within_a within_b = absurd (omega arith)
  related (suc n) a b few within_a within_b = elim (cases_order a b) [
    | inl same ↦ inl (subst (λ b. AtOrAbove tree a b) same (reflexive tree a))
    | inr (inl before) ↦ related_before a b before within_b (λ x y less within_x within_y. related n x y (omega arith) within_x within_y)
    | inr (inr after) ↦ related_swapped b a (related_before b a after within_a (λ x y less within_x within_y. related n x y (omega arith) within_x within_y))
  ]

  above_spans : (a b : ℕ) → b < length tree → AtOrAbove tree a b → Spans (span_at spans a) (span_at spans b)
  above_spans a b within (n, leads) =
      let filled = are.filled b within in
      elim (leads_nested n a b within leads) [
        | inl same ↦ subst (λ a. Spans (span_at spans a) (span_at spans b)) (sym same) (omega arith, filled)
        | inr nests ↦ (omega arith, omega arith)
      ]

  spans_above : (a b : ℕ) → a < length tree → b < length tree → Spans (span_at spans a) (span_at spans b) → AtOrAbove tree a b
  spans_above a b within_a within_b spans =
      let filled = are.filled b within_b in
      elim (related (suc (a + b)) a b (omega arith) within_a within_b) [
        | inl above ↦ above
        | inr (inl (n, leads)) ↦ elim (leads_nested n b a within_a leads) [
          | inl same ↦ subst (λ b. AtOrAbove tree a b) (sym same) (reflexive tree a)
          | inr nests ↦ absurd (omega arith)
        ]
        | inr (inr (inl before)) ↦ absurd (omega arith)
        | inr (inr (inr past)) ↦ absurd (omega arith)
      ]

  -- an affinity's places are those of the affinities that it is at or above
  spans_where_above : (a b : ℕ) → a < length tree → b < length tree → Spans (span_at spans a) (span_at spans b) ↔ AtOrAbove tree a b
  spans_where_above a b within_a within_b = (spans_above a b within_a within_b, above_spans a b within_b)

  pub nested : AreNested tree spans
  nested = record { count = are.count; parents = are.parents; filled = are.filled; few = are.few; tells = spans_where_above; ordered = are.apart }
