-- Trees of affinities: parents, what is at or above what, and what excludes what.
use Rattle.std.specs.Prelude.{◌≡◌, ℕ, zero, suc, ◌<◌, ◌≤◌, ◌⊎◌, List, [], length, Option, Some}
use Rattle.std.specs.Prelude.{None, IsSome, option_map, unwrap_or, option_and_then, slice_get}
use Rattle.std.specs.Prelude.{position}
use Rattle.std.specs.Str.{bytes_eq}
use Rattle.waff_model.specs.declared.limits.TheConstants.{MAX_AFFINITIES}

-- an affinity: its name, and the number of its parent, which the root lacks
pub record Node : Type 0 where
  pub name : List ℕ
  pub parent : Option ℕ

-- A tree of affinities is its list of nodes; an affinity is its number in the list, from 0.

-- the parent of the affinity b
abbrev pub parent_of : List Node → ℕ → Option ℕ
parent_of tree b = option_and_then (λ node. node.parent) (slice_get tree b)

-- the name of the affinity a
abbrev pub name_of : List Node → ℕ → List ℕ
name_of tree a = unwrap_or (option_map (λ node. node.name) (slice_get tree a)) []

-- the number of the affinity with this name
abbrev pub number_of : List Node → List ℕ → Option ℕ
number_of tree name = position (λ node. bytes_eq name node.name) tree

-- b leads to a by this many steps to the parent
abbrev pub Leads : List Node → ℕ → ℕ → ℕ → Type 0
Leads tree zero a b = a ≡ b
Leads tree (suc n) a b = (p : ℕ) × (parent_of tree b ≡ Some p) × Leads tree n a p

-- a is at or above b: b leads to a by zero or more steps to the parent
abbrev pub AtOrAbove : List Node → ℕ → ℕ → Type 0
AtOrAbove tree a b = (n : ℕ) × Leads tree n a b

-- two affinities exclude each other when one is at or above the other
abbrev pub Excludes : List Node → ℕ → ℕ → Type 0
Excludes tree a b = AtOrAbove tree a b ⊎ AtOrAbove tree b a

-- the first affinity alone has no parent, and each parent stands before its child
pub record IsRooted (tree : List Node) : Type 0 where
  pub root : parent_of tree 0 ≡ None
  pub others : (b : ℕ) → 0 < b → b < length tree → IsSome (parent_of tree b)
  pub earlier : (b p : ℕ) → parent_of tree b ≡ Some p → p < b
  pub few : length tree ≤ MAX_AFFINITIES

-- a tree is rooted and has its root
pub record IsTree (tree : List Node) : Type 0 where
  pub rooted : IsRooted tree
  pub filled : 0 < length tree
