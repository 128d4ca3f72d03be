-- The open messages: those that no later message at or above them has taken as a need. At each place that
-- it holds a message takes as needs the open messages at or below it, or, where there is none, the latest
-- message above it.
use Rattle.std.specs.Prelude.{◌≡◌, ℕ, ◌+◌, ◌<◌, ◌≤◌, ◌⊎◌, ◌↔◌, List, length, Contains, Some}
use Rattle.std.specs.List.Sorted.{IsStrictlyIncreasing}
use Rattle.waff_model.specs.Tree.{Node, AtOrAbove}
use Rattle.waff_assign.specs.Held.{Held, UsesAlone, UsesShared}
use Rattle.waff_assign.specs.Order.{affinity_of, held_of}
use Rattle.waff_order.specs.Needs.{needs_of}

-- what messages hold: an affinity; a lock, who uses it alone; or a place of its own below a lock, who shares it
pub data Place : Type 0 where
  affinity : ℕ → Place
  lock : ℕ → Place
  below : ℕ → ℕ → Place

-- message i holds the place
abbrev pub Holds : List Held → ℕ → Place → Type 0
Holds assigned i (affinity a) = affinity_of assigned i ≡ Some a
Holds assigned i (lock l) = UsesAlone (held_of assigned i) l
Holds assigned i (below l m) = (i ≡ m) × UsesShared (held_of assigned i) l

-- one place is at or above another: a lock is a leaf below the root
abbrev pub IsOver : List Node → Place → Place → Type 0
IsOver tree (affinity a) (affinity b) = AtOrAbove tree a b
IsOver tree (affinity a) (lock l) = a ≡ 0
IsOver tree (affinity a) (below l m) = a ≡ 0
IsOver tree (lock l) (affinity b) = ⊥
IsOver tree (lock l) (lock k) = l ≡ k
IsOver tree (lock l) (below k m) = l ≡ k
IsOver tree (below l m) (affinity b) = ⊥
IsOver tree (below l m) (lock k) = ⊥
IsOver tree (below l m) (below k n) = (l ≡ k) × (m ≡ n)

-- message i holds a place at or above this one
abbrev pub HoldsOver : List Node → List Held → ℕ → Place → Type 0
HoldsOver tree assigned i at = (place : Place) × Holds assigned i place × IsOver tree place at

-- after n messages message i is open at a place that it holds: none that came after it holds one at or above it
pub record IsOpen (tree : List Node) (assigned : List Held) (n i : ℕ) (at : Place) : Type 0 where
  pub from : 1 ≤ i
  pub to : i ≤ n
  pub held : Holds assigned i at
  pub free : (j : ℕ) → i < j → j ≤ n → ¬ HoldsOver tree assigned j at

-- after n messages message i is open at or below a place
abbrev pub IsOpenBelow : List Node → List Held → ℕ → ℕ → Place → Type 0
IsOpenBelow tree assigned n i at =
    (place : Place) × IsOver tree at place × IsOpen tree assigned n i place

-- of the first n messages message i is the latest that holds a place at or above this one
pub record IsLatestOver (tree : List Node) (assigned : List Held) (n i : ℕ) (at : Place) : Type 0 where
  pub from : 1 ≤ i
  pub to : i ≤ n
  pub over : HoldsOver tree assigned i at
  pub latest : (j : ℕ) → j ≤ n → 1 ≤ j → HoldsOver tree assigned j at → j ≤ i

-- message i is a need of a message that comes after the first n and holds the place
abbrev pub IsNeededAt : List Node → List Held → ℕ → ℕ → Place → Type 0
IsNeededAt tree assigned n i at =
    IsOpenBelow tree assigned n i at
    ⊎ (((j : ℕ) → ¬ IsOpenBelow tree assigned n j at) × IsLatestOver tree assigned n i at)

-- the list that message n + 1 gets
pub record IsChosen (tree : List Node) (assigned : List Held) (n : ℕ) (needs : List ℕ) : Type 0 where
  pub each : (i : ℕ) → Contains needs i
      ↔ ((at : Place) × Holds assigned (n + 1) at × IsNeededAt tree assigned n i at)
  pub rising : IsStrictlyIncreasing needs

-- the needs that each message is given: there is one list for each message
pub record AreChosen (tree : List Node) (assigned : List Held) (needs : List (List ℕ)) : Type 0 where
  pub count : length needs ≡ length assigned
  pub each : (n : ℕ) → n < length assigned → IsChosen tree assigned n (needs_of needs (n + 1))
