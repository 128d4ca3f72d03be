-- The lowest affinities that are noted while one hierarchy is compared with another.
use Rattle.std.specs.Prelude.{◌≡◌, ℕ, ◌<◌, ◌≤◌, ◌⊎◌, List, Option, Some, None, IfSome}
use Rattle.std.specs.Prelude.{option_and_then, slice_index_or}
use Rattle.waff_model.specs.Tree.{Node, AtOrAbove, Excludes, parent_of}
use Rattle.waff_model.specs.declared.tree.AffinityId.{AffinityId}
use Rattle.waff_assign.specs.Order.{affinity_of}
use Rattle.waff_assign.specs.Held.{Held}

-- the lowest of a set of affinities: one of them that all of them are at or above
pub record IsLowestOf (tree : List Node)
    (Has : AffinityId → Type 0) (low : AffinityId) : Type 0 where
  pub one : Has low
  pub each : (b : AffinityId) → Has b → AtOrAbove tree b.0 low.0

-- the lowest of a set of affinities, or that it has none
abbrev pub IsLowestNoted : List Node → (AffinityId → Type 0) → Option AffinityId → Type 0
IsLowestNoted tree Has None = (b : AffinityId) → Has b → ⊥
IsLowestNoted tree Has (Some low) = IsLowestOf tree Has low

-- the lower of an affinity and the one that is noted, if one is
pub record IsLower (tree : List Node) (noted : Option AffinityId)
    (b low : AffinityId) : Type 0 where
  pub one : (low ≡ b) ⊎ (noted ≡ Some low)
  pub above : AtOrAbove tree b.0 low.0
  pub noted_above : IfSome noted (λ a. AtOrAbove tree a.0 low.0)

-- neither of an affinity and the one that is noted is at or above the other
abbrev pub IsApart : List Node → Option AffinityId → AffinityId → Type 0
IsApart tree noted b = (a : AffinityId) × (noted ≡ Some a) × (Excludes tree a.0 b.0 → ⊥)

-- some message before message n has affinity a under one hierarchy and b under another
pub record IsCoarseOf (assigned coarse_assigned : List Held) (n a : ℕ) (b : AffinityId) : Type 0 where
  pub message : ℕ
  pub from : 1 ≤ message
  pub before : message < n
  pub affinity : affinity_of assigned message ≡ Some a
  pub coarse : affinity_of coarse_assigned message ≡ Some b.0

-- of the messages before message n of each affinity, the lowest of their affinities under the
-- coarse tree is noted
abbrev pub AreLowests : List Held → List Node → List Held → ℕ → List (Option AffinityId) → Type 0
AreLowests assigned coarse_tree coarse_assigned n lowests =
    (a : ℕ) → IsLowestNoted coarse_tree (IsCoarseOf assigned coarse_assigned n a)
    (slice_index_or lowests a None)

-- b is noted at a or above it
pub record IsNotedAbove (tree : List Node)
    (lowests : List (Option AffinityId)) (a : ℕ) (b : AffinityId) : Type 0 where
  pub place : ℕ
  pub above : AtOrAbove tree place a
  pub noted : slice_index_or lowests place None ≡ Some b

-- what is noted at the parent of a
abbrev pub above_of : List Node → List (Option AffinityId) → ℕ → Option AffinityId
above_of tree lowests a = option_and_then (λ p. slice_index_or lowests p None) (parent_of tree a)

-- what is noted at two affinities that exclude each other excludes each other under the coarse tree
abbrev pub Agree : List Node → List Node → List (Option AffinityId) → Type 0
Agree tree coarse_tree lowests =
    (a b : ℕ) (x y : AffinityId) → AtOrAbove tree a b
    → slice_index_or lowests a None ≡ Some x → slice_index_or lowests b None ≡ Some y
    → Excludes coarse_tree x.0 y.0
