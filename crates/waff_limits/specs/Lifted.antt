-- Messages that run high, in affinities below which others lie, and the two cells that lift each so high.
use Rattle.std.specs.Prelude.{◌≡◌, ◌↔◌, ℕ, ◌<◌, ◌⊎◌, Bool, false, List, [], ◌∷◌, All, AllPairs, Contains, IsTrue, Option, Some, None, length, slice_index_or}
use Rattle.waff_model.specs.Cells.{cells_of}
use Rattle.waff_model.specs.Layout.{Hierarchy, IsCell, IsLocked, Space, owner_of}
use Rattle.waff_model.specs.Numbers.{IsAmongFirst}
use Rattle.waff_model.specs.Tree.{AtOrAbove, Node, parent_of}
use Rattle.waff_model.specs.declared.cell.Cell.{Cell}
use Rattle.waff_model.specs.declared.message.Message.{Message}
use Rattle.waff_assign.specs.Lowest.{IsLowest, IsUnlockedAmong}
use Rattle.waff_assign.specs.Order.{affinity_of}
use Rattle.waff_plan.specs.Timetable.{message_of}
use Rattle.waff_limits.specs.Data.{ComesBefore}
use Rattle.waff_limits.specs.declared.lifted.Lift.{Lift}
use Rattle.waff_assign.specs.Held.{Held}

-- the first of some cells: one of them, before which none of them comes
pub record IsFirst (Has : Cell → Type 0) (first : Cell) : Type 0 where
  pub has : Has first
  pub before : (other : Cell) → Has other → (first ≡ other) ⊎ ComesBefore first other

-- a is the lowest affinity at or above the owners of two cells
abbrev pub IsLowestOfTwo : Hierarchy → ℕ → Cell → Cell → Type 0
IsLowestOfTwo layout a cell other = IsLowest layout (Contains (cell ∷ other ∷ [])) a

-- the two cells that lift what uses these cells to a: the first of them, and the first such that a is
-- the lowest at or above the owners of the two
pub record AreLifting (layout : Hierarchy) (Has : Cell → Type 0)
    (a : ℕ) (cell other : Cell) : Type 0 where
  pub first : IsFirst Has cell
  pub lifting : IsFirst (λ another. Has another × IsLowestOfTwo layout a cell another) other

-- the cells without locks that message n uses
abbrev pub IsUsedBy : Hierarchy → List Message → ℕ → Cell → Type 0
IsUsedBy layout messages n cell = IsUnlockedAmong layout (cells_of (message_of messages n).ops) cell

-- others lie below the affinity: it is the parent of one
abbrev pub IsInner : List Node → ℕ → Type 0
IsInner tree a = (b : ℕ) × (parent_of tree b ≡ Some a)

-- a mark for each affinity: whether others lie below it
pub record AreInner (tree : List Node) (marks : List Bool) : Type 0 where
  pub long : length marks ≡ length tree
  pub each : (a : ℕ) → a < length tree → IsTrue (slice_index_or marks a false) ↔ IsInner tree a

-- message n has an affinity, and others lie below it
pub record IsHighIn (tree : List Node) (assigned : List Held) (n a : ℕ) : Type 0 where
  pub affinity : affinity_of assigned n ≡ Some a
  pub inner : IsInner tree a

-- message n runs high
pub record RunsHigh (tree : List Node)
    (messages : List Message) (assigned : List Held) (n : ℕ) : Type 0 where
  pub number : IsAmongFirst (length messages) n
  pub high : (a : ℕ) × IsHighIn tree assigned n a

-- what is told of a message that runs high: its cost, and the two cells without locks that lift it
pub record IsLift (layout : Hierarchy)
    (messages : List Message) (assigned : List Held) (lift : Lift) : Type 0 where
  pub number : IsAmongFirst (length messages) lift.message
  pub cost : lift.cost ≡ (message_of messages lift.message).cost
  pub affinity : ℕ
  pub high : IsHighIn layout.tree assigned lift.message affinity
  pub cells : AreLifting layout (IsUsedBy layout messages lift.message) affinity lift.cell lift.other

-- the lift is of one of so many messages, and its cells lie in the spaces
pub record IsTold (spaces : List Space) (messages : ℕ) (lift : Lift) : Type 0 where
  pub message : IsAmongFirst messages lift.message
  pub cell : IsCell spaces lift.cell
  pub other : IsCell spaces lift.other

-- it is told of each message that runs high, in the order of arrival
pub record AreLifts (layout : Hierarchy)
    (messages : List Message) (assigned : List Held) (lifts : List Lift) : Type 0 where
  pub each : All (IsLift layout messages assigned) lifts
  pub all : (n : ℕ) → RunsHigh layout.tree messages assigned n
      → (lift : Lift) × Contains lifts lift × (lift.message ≡ n)
  pub order : AllPairs (λ one other. one.message < other.message) lifts

-- the owner of the cell is not at or below the affinity, if there is one
abbrev pub IsNotBelow : Hierarchy → Option ℕ → Cell → Type 0
IsNotBelow layout None cell = Unit {0}
IsNotBelow layout (Some a) cell = ¬ AtOrAbove layout.tree a (owner_of layout.spaces cell)

-- nor has the cell a lock
abbrev pub IsOutside : Hierarchy → Option ℕ → Cell → Type 0
IsOutside layout below cell = (¬ IsLocked layout.spaces cell) × IsNotBelow layout below cell

-- of those cells of a list the first, if there is one
abbrev pub IsFirstAmong : List Cell → (Cell → Type 0) → Option Cell → Type 0
IsFirstAmong cells IsMeant None = (cell : Cell) → Contains cells cell → ¬ IsMeant cell
IsFirstAmong cells IsMeant (Some first) = IsFirst (λ cell. Contains cells cell × IsMeant cell) first

-- the cell comes before the one that is the first so far, if there is one
abbrev pub IsSooner : Option Cell → Cell → Type 0
IsSooner None cell = Unit {0}
IsSooner (Some first) cell = ComesBefore cell first
