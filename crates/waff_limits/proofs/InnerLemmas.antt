-- Marks of the affinities below which others lie, child by child.
use Rattle.std.proofs.Common.{◌≡◌, ◌↔◌, ℕ, ◌+◌, ◌<◌, inl, inr, Bool, true, false, List, IsTrue, Some, None, length, get_or, nat_lt, slice_set, replicate, option_and_then, sym, ◌∙◌, ap, subst, arith}
use Rattle.std.proofs.lemmas.Bool.{cases_Bool, cases_eq, ltb-false, ltb-true}
use Rattle.std.proofs.lemmas.List.{get_or_past, get_or-replicate, get_or-set_other, get_or-set_same, length-replicate, length-set}
use Rattle.std.proofs.lemmas.Option.{slice_get_cases}
use Rattle.waff_model.specs.Tree.{Node, parent_of}
use Rattle.waff_limits.specs.Lifted.{AreInner}

-- the marks tell of those that have a child before b
pub record AreInnerBelow (tree : List Node) (marks : List Bool) (b : ℕ) : Type 0 where
  pub long : length marks ≡ length tree
  pub each : (a : ℕ) → a < length tree → IsTrue (get_or marks a false) ↔ ((c : ℕ) × (c < b) × (parent_of tree c ≡ Some a))

pub none_marked : (tree : List Node) → AreInnerBelow tree (replicate (length tree) false) 0
none_marked tree = record {
  long = length-replicate (length tree) false;
  each = λ a known. (
    λ marked. absurd (unmarked a known marked),
    λ child. let (c, low, is) = child in absurd (omega (arith, low)),
  );
}
  where
    unmarked : (a : ℕ) → a < length tree → IsTrue (get_or (replicate (length tree) false) a false) → ⊥
    unmarked a known marked = let wrong : false ≡ true = sym (get_or-replicate (length tree) a false false known) ∙ marked in cc

-- an affinity without a parent marks none
pub none_more : (tree : List Node) (marks : List Bool) (b : ℕ) → AreInnerBelow tree marks b → parent_of tree b ≡ None → AreInnerBelow tree marks (b + 1)
none_more tree marks b are none = record {
  long = are.long;
  each = λ a known. (
    λ marked. let (c, low, is) = (are.each a known).0 marked in (c, omega (arith, low), is),
    λ child. let (c, low, is) = child in elim (cases_eq c b) [
      | inl same ↦ absurd (let wrong : None ≡ Some a = sym none ∙ ap (parent_of tree) (sym same) ∙ is in cc)
      | inr other ↦ (are.each a known).1 (c, omega (arith, low, other), is)
    ],
  );
}

-- one with a parent marks that
pub one_more : (tree : List Node) (marks : List Bool) (b p : ℕ) → AreInnerBelow tree marks b → parent_of tree b ≡ Some p → p < length tree
    → AreInnerBelow tree (slice_set marks p true) (b + 1)
one_more tree marks b p are parent within = record {
  long = length-set marks p true ∙ are.long;
  each = λ a known. (to a known, from a known);
}
  where
    inside : p < length marks
    inside = omega (arith, within, are.long)

    to : (a : ℕ) → a < length tree → IsTrue (get_or (slice_set marks p true) a false) → (c : ℕ) × (c < b + 1) × (parent_of tree c ≡ Some a)
    to a known marked = elim (cases_eq p a) [
      | inl same ↦ (b, omega arith, parent ∙ ap Some same)
      | inr other ↦
          let (c, low, is) = (are.each a known).0 (subst IsTrue (get_or-set_other marks p a true false (λ same. other (sym same))) marked) in
          (c, omega (arith, low), is)
    ]

    from : (a : ℕ) → a < length tree → (c : ℕ) × (c < b + 1) × (parent_of tree c ≡ Some a) → IsTrue (get_or (slice_set marks p true) a false)
    from a known (c, low, is) = elim (cases_eq p a) [
      | inl same ↦ subst (λ k. IsTrue (get_or (slice_set marks p true) k false)) same (get_or-set_same marks p true false inside)
      | inr other ↦ elim (cases_eq c b) [
        | inl here ↦ absurd (other (same_parent p a (sym parent ∙ ap (parent_of tree) (sym here) ∙ is)))
        | inr before ↦ subst IsTrue (sym (get_or-set_other marks p a true false (λ same. other (sym same)))) ((are.each a known).1 (c, omega (arith, low, before), is))
      ]
    ]
      where
        same_parent : (x y : ℕ) → Some x ≡ Some y → x ≡ y
        same_parent x y same = cc

-- all children are of the tree
pub all_marked : (tree : List Node) (marks : List Bool) (b : ℕ) → b ≡ length tree → AreInnerBelow tree marks b → AreInner tree marks
all_marked tree marks b all are = record {
  long = are.long;
  each = λ a known. (
    λ marked. let (c, low, is) = (are.each a known).0 marked in (c, is),
    λ child. let (c, is) = child in (are.each a known).1 (c, subst (λ n. c < n) (sym all) (has_child c a is), is),
  );
}
  where
    has_child : (c a : ℕ) → parent_of tree c ≡ Some a → c < length tree
    has_child c a is = elim (slice_get_cases tree c).1 [
      | inl (node, within, same, last) ↦ within
      | inr (past, none) ↦ absurd (let wrong : None ≡ Some a = sym (ap (option_and_then (λ (n : Node). n.parent)) none) ∙ is in cc)
    ]

-- an affinity that is marked is one of the tree
pub marked_within : (marks : List Bool) (tree : List Node) (a : ℕ) → length marks ≡ length tree → get_or marks a false ≡ true → a < length tree
marked_within marks tree a long marked = elim (cases_Bool (nat_lt a (length marks))) [
  | inl held ↦ let within = ltb-true a (length marks) held in omega (arith, within, long)
  | inr failed ↦ absurd (let wrong : false ≡ true = sym (get_or_past marks a false (ltb-false a (length marks) failed)) ∙ marked in cc)
]
