-- What a message holds from its start to its finish, and which of two messages exclude each other by it.
use Rattle.std.specs.Prelude.{◌≡◌, ℕ, ◌<◌, ◌≤◌, ◌⊎◌, List, [], length, All, Contains, Option, Some, None}
use Rattle.std.specs.Prelude.{◌+◌, false, if◌then◌else◌, is_some, slice_get, sum_by, true}
use Rattle.waff_model.specs.Tree.{Node, Excludes}
use Rattle.waff_assign.specs.declared.held.LockUse.{LockUse}

-- an affinity, but where all cells that the message names have locks, and uses of the locks of those that have
pub record Held : Type 0 where
  pub affinity : Option ℕ
  pub uses : List LockUse

-- what holds nothing
abbrev pub nothing : Held
nothing = record { affinity = None; uses = [] }

-- an affinity and no lock
abbrev pub only_affinity : ℕ → Held
only_affinity a = record { affinity = Some a; uses = [] }

-- uses of locks and no affinity
abbrev pub using : List LockUse → Held
using uses = record { affinity = None; uses = uses }

-- the lock is used, alone or shared
abbrev pub UsesLock : Held → ℕ → Type 0
UsesLock held lock = (u : LockUse) × Contains held.uses u × (u.lock ≡ lock)

-- the lock is used alone
abbrev pub UsesAlone : Held → ℕ → Type 0
UsesAlone held lock = (u : LockUse) × Contains held.uses u × (u.lock ≡ lock) × (u.alone ≡ true)

-- two uses of one lock, one of them alone
abbrev pub UsesContend : LockUse → LockUse → Type 0
UsesContend u v = (u.lock ≡ v.lock) × ((u.alone ≡ true) ⊎ (v.alone ≡ true))

-- the lock is shared
abbrev pub UsesShared : Held → ℕ → Type 0
UsesShared held lock = (u : LockUse) × Contains held.uses u × (u.lock ≡ lock) × (u.alone ≡ false)

-- how many places are held: the affinity, if there is one, and the locks
abbrev pub count_held : Held → ℕ
count_held held = length held.uses + (if is_some held.affinity then 1 else 0)

abbrev pub places_held : List Held → ℕ
places_held assigned = sum_by count_held assigned

-- both have affinities, and one of these is at or above the other
abbrev pub AffinitiesExclude : List Node → Held → Held → Type 0
AffinitiesExclude tree one other =
    (a b : ℕ) × (one.affinity ≡ Some a) × (other.affinity ≡ Some b) × Excludes tree a b

-- the affinity is the root
abbrev pub IsInRoot : Held → Type 0
IsInRoot held = held.affinity ≡ Some 0

-- both use the lock, and one of them alone
abbrev pub Contend : Held → Held → ℕ → Type 0
Contend one other lock =
    (UsesAlone one lock × UsesLock other lock) ⊎ (UsesLock one lock × UsesAlone other lock)

-- the first of the locks that both use, and one of them alone; none where there is none
abbrev pub IsFirstOfContended : Held → Held → Option ℕ → Type 0
IsFirstOfContended one other None = (lock : ℕ) → ¬ Contend one other lock
IsFirstOfContended one other (Some first) =
    Contend one other first × ((lock : ℕ) → Contend one other lock → first ≤ lock)

-- two messages exclude each other without their locks: by their affinities, or since one of them runs in the root
abbrev pub ExcludeByAffinities : List Node → Held → Held → Type 0
ExcludeByAffinities tree one other =
    AffinitiesExclude tree one other ⊎ (IsInRoot one ⊎ IsInRoot other)

-- two messages exclude each other: by their affinities; or since one of them runs in the root; or both use one lock,
-- and one of them alone
abbrev pub ExcludeEachOther : List Node → Held → Held → Type 0
ExcludeEachOther tree one other =
    AffinitiesExclude tree one other
    ⊎ ((IsInRoot one ⊎ IsInRoot other) ⊎ ((lock : ℕ) × Contend one other lock))

-- uses of locks, each lock once, in rising order
abbrev pub IsRising : List LockUse → Type 0
IsRising uses =
    (p q : ℕ) (u v : LockUse) → p < q → slice_get uses p ≡ Some u → slice_get uses q ≡ Some v
    → u.lock < v.lock

-- what a message may hold where there are so many affinities: one of them or a lock at least, and each lock once, in
-- rising order
pub record IsHeldWithin (count : ℕ) (held : Held) : Type 0 where
  pub affinity : (a : ℕ) → held.affinity ≡ Some a → a < count
  pub some : held.affinity ≡ None → 0 < length held.uses
  pub rising : IsRising held.uses

-- what each message holds is of the tree
abbrev pub AreKnown : List Node → List Held → Type 0
AreKnown tree assigned = All (IsHeldWithin (length tree)) assigned

-- no lock is used
abbrev pub AreUnlocked : List Held → Type 0
AreUnlocked assigned = All (λ held. held.uses ≡ []) assigned

-- all locks that are used have numbers below this one
abbrev pub AreLocksBelow : ℕ → List Held → Type 0
AreLocksBelow count assigned = All (λ held. All (λ u. u.lock < count) held.uses) assigned
