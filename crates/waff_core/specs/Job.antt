-- Jobs: what a replay replays.
use Rattle.std.specs.Prelude.{◌≡◌, ◌↔◌, ℕ, ◌-◌, ◌<◌, ◌≤◌, List, [], length, All, Some, Contains}
use Rattle.std.specs.Prelude.{slice_get, slice_index_or}
use Rattle.waff_model.specs.Cells.{cells_of}
use Rattle.waff_model.specs.Layout.{Hierarchy, Space, IsCell, IsLayout, owner_of}
use Rattle.waff_model.specs.Numbers.{IsAmongFirst}
pub use Rattle.waff_model.specs.Numbers.{StandOnce}
use Rattle.waff_model.specs.declared.cell.Cell.{Cell}
use Rattle.waff_model.specs.declared.limits.TheConstants.{MAX_OPS}
use Rattle.waff_model.specs.declared.message.Message.{Message}
use Rattle.waff_model.specs.declared.op.Op.{Op}
use Rattle.waff_model.specs.Tree.{AtOrAbove}
use Rattle.waff_assign.specs.Held.{Held, AreKnown, AreUnlocked}
use Rattle.waff_assign.specs.Lowest.{IsInFootprint, IsLowest}
use Rattle.waff_assign.specs.Order.{affinity_of}
use Rattle.waff_order.specs.Needs.{AreNeeds, IsNeed}
use Rattle.waff_cells.specs.Serial.{operations, ops_of}

-- what a job stands for: a layout; the operations, what they hold, the needs and the owners of a
-- trace's messages, in the order of arrival; and the order in which the messages are handed out
pub record JobValue : Type 0 where
  pub layout : Hierarchy
  pub ops : List (List Op)
  pub assigned : List Held
  pub needs : List (List ℕ)
  pub owners : List (List ℕ)
  pub order : List ℕ

-- message n stands at this place of the order, from 0
abbrev pub StandsAt : List ℕ → ℕ → ℕ → Type 0
StandsAt order place n = slice_get order place ≡ Some n

-- an order of messages with these needs: all of them, each once, and each need before its message
pub record IsOrder (needs : List (List ℕ)) (order : List ℕ) : Type 0 where
  pub messages : All (λ n. (1 ≤ n) × (n ≤ length needs)) order
  pub each : (n : ℕ) → 1 ≤ n → n ≤ length needs → (place : ℕ) × StandsAt order place n
  pub once : (place other n : ℕ) → StandsAt order place n → StandsAt order other n → place ≡ other
  pub needed : (i j place other : ℕ) → IsNeed needs i j → StandsAt order place i
      → StandsAt order other j → place < other

-- a owns a cell that these operations name
pub record IsOwner (spaces : List Space) (ops : List Op) (a : ℕ) : Type 0 where
  pub cell : Cell
  pub named : Contains (cells_of ops) cell
  pub owned : owner_of spaces cell ≡ a

-- the owners of a footprint, each once
pub record ListsOwners (spaces : List Space) (ops : List Op) (owners : List ℕ) : Type 0 where
  pub each : (a : ℕ) → Contains owners a ↔ IsOwner spaces ops a
  pub once : StandOnce owners

-- the owners of message n, from 1
abbrev pub owners_of : List (List ℕ) → ℕ → List ℕ
owners_of owners n = slice_index_or owners (n - 1) []

-- n is the number of a message of the job
abbrev pub IsIn : JobValue → ℕ → Type 0
IsIn job n = IsAmongFirst (length job.ops) n

-- message n runs in an affinity at or above a
abbrev pub RunsAbove : JobValue → ℕ → ℕ → Type 0
RunsAbove job n a =
    (own : ℕ) × (affinity_of job.assigned n ≡ Some own) × AtOrAbove job.layout.tree own a

-- a job: messages whose cells lie in the layout, each with the lowest affinity that covers its
-- footprint, with no locks, and with the footprint's owners, with needs of theirs, and in an order
pub record IsJob (job : JobValue) : Type 0 where
  pub layout : IsLayout job.layout
  pub cells : All (λ ops. All (IsCell job.layout.spaces) (cells_of ops)) job.ops
  pub few : All (λ ops. length ops ≤ MAX_OPS) job.ops
  pub count : length job.assigned ≡ length job.ops
  pub lowest : (n a : ℕ) → IsIn job n → affinity_of job.assigned n ≡ Some a
      → IsLowest job.layout (IsInFootprint (ops_of job.ops n)) a
  pub known : AreKnown job.layout.tree job.assigned
  pub unlocked : AreUnlocked job.assigned
  pub needs : AreNeeds job.layout.tree job.assigned job.needs
  pub owned : length job.owners ≡ length job.ops
  pub owners : (n : ℕ) → IsIn job n
      → ListsOwners job.layout.spaces (ops_of job.ops n) (owners_of job.owners n)
  pub order : IsOrder job.needs job.order

-- the job of a trace's messages: what it was made of is kept
pub record IsJobOf (layout : Hierarchy) (messages : List Message) (assigned : List Held)
    (needs : List (List ℕ)) (order : List ℕ) (job : JobValue) : Type 0 where
  pub layout_kept : job.layout ≡ layout
  pub ops_kept : job.ops ≡ operations messages
  pub assigned_kept : job.assigned ≡ assigned
  pub needs_kept : job.needs ≡ needs
  pub order_kept : job.order ≡ order
