-- Steps to the parent in a tree of affinities.
use Rattle.std.proofs.Common.{◌≡◌, ◌≢◌, ℕ, zero, suc, ◌<◌, List, length, Some, None, arith, sym, ◌∙◌, subst, ⊎_elim}
use Rattle.std.proofs.lemmas.Bool.{cases_eq}
use Rattle.waff_model.proofs.TreeLemmas.{some_of, reflexive, above_child, above_parent}
use Rattle.waff_model.specs.Tree.{Node, parent_of, AtOrAbove, IsRooted, IsTree}

-- the root is at or above each affinity
root_above_by : (tree : List Node) → IsRooted tree → (bound b : ℕ) → b < bound → b < length tree → AtOrAbove tree 0 b
root_above_by tree rooted zero b short within = absurd (omega arith)
root_above_by tree rooted (suc bound) b short within =
    ⊎_elim {C = AtOrAbove tree 0 b}
    (λ (top : b ≡ 0). subst (λ x. AtOrAbove tree 0 x) (sym top) (reflexive tree 0))
    (λ (under : b ≢ 0).
    let has_parent = some_of (parent_of tree b) (rooted.others b (omega arith) within) in
    let earlier : has_parent.0 < b = rooted.earlier b has_parent.0 has_parent.1 in
    above_child tree 0 b has_parent.0 has_parent.1
    (root_above_by tree rooted bound has_parent.0 (omega arith) (omega arith)))
    (cases_eq b 0)

pub root_above : (tree : List Node) → IsTree tree → (b : ℕ) → b < length tree → AtOrAbove tree 0 b
root_above tree is_tree b within = root_above_by tree is_tree.rooted (suc b) b (omega arith) within

-- an affinity without parent is the root
pub root_from_none : (tree : List Node) → IsTree tree → (b : ℕ) → b < length tree → parent_of tree b ≡ None → b ≡ 0
root_from_none tree is_tree b within none =
    ⊎_elim {C = b ≡ 0}
    (λ (top : b ≡ 0). top)
    (λ (under : b ≢ 0).
    let has_parent = some_of (parent_of tree b) (is_tree.rooted.others b (omega arith) within) in
    let both : None ≡ Some has_parent.0 = sym none ∙ has_parent.1 in cc)
    (cases_eq b 0)

-- a step up: what is at or above an affinity, and at or above another that the affinity is not at
-- or above, is at or above its parent
pub above_step : (tree : List Node) (a at owner p : ℕ) → (AtOrAbove tree at owner → ⊥) → parent_of tree at ≡ Some p
    → AtOrAbove tree a at → AtOrAbove tree a owner → AtOrAbove tree a p
above_step tree a at owner p not_above is high above =
    above_parent tree a at p (λ same. not_above (subst (λ x. AtOrAbove tree x owner) same above)) is high
