-- What messages hold: the lowest affinity that covers the cells without locks, and the locks of the others.
use Rattle.std.specs.Prelude.{◌≡◌, ◌↔◌, ◌⊎◌, ℕ, ◌-◌, ◌<◌, ◌≤◌, List, length, Option, Some, None, Contains}
use Rattle.std.specs.Prelude.{slice_get, true}
use Rattle.std.specs.List.Sorted.{IsStrictlySortedBy}
use Rattle.waff_model.specs.Tree.{AtOrAbove}
use Rattle.waff_model.specs.Layout.{Hierarchy, owner_of}
use Rattle.waff_model.specs.Cells.{cells_of, cells_written}
use Rattle.waff_model.specs.declared.cell.Cell.{Cell}
use Rattle.waff_model.specs.declared.tree.AffinityId.{AffinityId}
use Rattle.waff_model.specs.declared.op.Op.{Op}
use Rattle.waff_model.specs.declared.message.Message.{Message}
use Rattle.waff_model.specs.Layout.{IsLocked, locking_of}
use Rattle.waff_model.specs.declared.locking.Locking.TheVariants.{Exclusive}
pub use Rattle.waff_assign.specs.Footprint.{IsInFootprint}
use Rattle.waff_assign.specs.Footprint.{cell_cmp}
use Rattle.waff_assign.specs.Held.{Held, IsRising}
use Rattle.waff_assign.specs.Order.{held_of}
use Rattle.waff_assign.specs.declared.held.LockUse.{LockUse}

-- a covers a set of cells when it is at or above the owner of each of them
abbrev pub Covers : Hierarchy → (Cell → Type 0) → ℕ → Type 0
Covers layout Has a =
    (cell : Cell) → Has cell → AtOrAbove layout.tree a (owner_of layout.spaces cell)

-- the lowest that covers: every affinity that covers is at or above it
pub record IsLowest (layout : Hierarchy) (Has : Cell → Type 0) (a : ℕ) : Type 0 where
  pub covers : Covers layout Has a
  pub lowest : (other : ℕ) → Covers layout Has other → AtOrAbove layout.tree other a

-- a is the lowest affinity that covers the footprint of message n
abbrev pub IsLowestOf : Hierarchy → List Message → ℕ → ℕ → Type 0
IsLowestOf layout messages n a =
    (message : Message) → slice_get messages (n - 1) ≡ Some message
    → IsLowest layout (IsInFootprint message.ops) a

-- there is an affinity, the lowest that covers the footprint of message n
abbrev pub IsSomeLowestOf : Hierarchy → List Message → ℕ → Option AffinityId → Type 0
IsSomeLowestOf layout messages n affinity =
    (a : AffinityId) × (affinity ≡ Some a) × IsLowestOf layout messages n a.0 × (a.0 < length layout.tree)

-- those of these cells that have no locks
abbrev pub IsUnlockedAmong : Hierarchy → List Cell → Cell → Type 0
IsUnlockedAmong layout cells cell = Contains cells cell × ¬ IsLocked layout.spaces cell

-- the lowest affinity that covers those of these cells that have no locks; none where all have locks
abbrev pub IsAffinityAmong : Hierarchy → List Cell → Option ℕ → Type 0
IsAffinityAmong layout cells None = (cell : Cell) → Contains cells cell → IsLocked layout.spaces cell
IsAffinityAmong layout cells (Some a) =
    ((cell : Cell) × IsUnlockedAmong layout cells cell) × IsLowest layout (IsUnlockedAmong layout cells) a

-- the affinity in which operations run: the lowest that covers their cells without locks; none where all have locks
abbrev pub IsAffinityOf : Hierarchy → List Op → Option ℕ → Type 0
IsAffinityOf layout ops affinity = IsAffinityAmong layout (cells_of ops) affinity

-- the cells with locks that messages name, each once, in order: they number the locks, from 0
pub record ListsLocks (layout : Hierarchy) (messages : List Message) (cells : List Cell) : Type 0 where
  pub each : (cell : Cell) → Contains cells cell
      ↔ (IsLocked layout.spaces cell
      × ((message : Message) × Contains messages message × IsInFootprint message.ops cell))
  pub rising : IsStrictlySortedBy cell_cmp cells

-- operations use the lock of each cell with a lock that they name: shared where its space has shared locks and they
-- only read it, else alone
pub record IsUseOf (layout : Hierarchy) (ops : List Op) (locks : List Cell) (u : LockUse) : Type 0 where
  pub cell : Cell
  pub numbered : slice_get locks u.lock ≡ Some cell
  pub named : IsInFootprint ops cell
  pub alone : (u.alone ≡ true) ↔ ((locking_of layout.spaces cell ≡ Exclusive) ⊎ Contains (cells_written ops) cell)

-- the uses of all locks of a footprint, by the numbers of the locks
pub record ListsUses (layout : Hierarchy) (ops : List Op) (locks : List Cell) (uses : List LockUse) : Type 0 where
  pub each : (u : LockUse) → Contains uses u ↔ IsUseOf layout ops locks u
  pub rising : IsRising uses

-- what message n holds
pub record IsHeldBy (layout : Hierarchy) (locks : List Cell) (message : Message) (held : Held) : Type 0 where
  pub affinity : IsAffinityOf layout message.ops held.affinity
  pub uses : ListsUses layout message.ops locks held.uses

-- the assignment of a trace: what each message holds, by the locks of all of them
pub record IsAssignment (layout : Hierarchy)
    (messages : List Message) (assigned : List Held) : Type 0 where
  pub count : length assigned ≡ length messages
  pub locks : List Cell
  pub numbered : ListsLocks layout messages locks
  pub each : (n : ℕ) (message : Message) → 1 ≤ n → slice_get messages (n - 1) ≡ Some message
      → IsHeldBy layout locks message (held_of assigned n)
