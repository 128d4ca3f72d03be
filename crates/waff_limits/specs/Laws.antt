-- What the data say of every hierarchy, and what limits say of all plans.
use Rattle.std.specs.Prelude.{◌≡◌, ℕ, ◌+◌, ◌≤◌, max, All, Bool, true, false, List, [], Option, None, IfSome, length, map}
use Rattle.std.specs.List.{range_with_len}
use Rattle.waff_model.specs.Layout.{Hierarchy, IsCell, IsLayout, Space, locking_of}
use Rattle.waff_model.specs.Messages.{IsTrace, no_client, sizes_of}
use Rattle.waff_model.specs.Versions.{has_clients}
use Rattle.waff_model.specs.declared.cell.Cell.{Cell}
use Rattle.waff_model.specs.declared.locking.Locking.TheVariants.{Shared}
use Rattle.waff_model.specs.declared.message.Message.{Message}
use Rattle.waff_assign.specs.Held.{AreUnlocked, Held}
use Rattle.waff_assign.specs.Instance.{Instance, before_in}
use Rattle.waff_assign.specs.Lowest.{IsAssignment}
use Rattle.waff_plan.specs.Bound.{IsWorkers}
use Rattle.waff_plan.specs.Instances.{served_first, work_of_instance}
use Rattle.waff_plan.specs.LowerBound.{ObeysInSomeOrder, earliest_finish, lower_bound_of, path_cost, share_in}
use Rattle.waff_plan.specs.Obeys.{AwaitsEarlier, IsLeast, Obeys}
use Rattle.waff_plan.specs.ServesAs.{ServesAs}
use Rattle.waff_plan.specs.Timetable.{work_of_messages}
use Rattle.waff_plan.specs.Unique.{AreSame}
use Rattle.waff_plan.specs.Work.{IsNumber, Work, greatest, issue_after, length_of}
use Rattle.waff_limits.specs.Data.{IsMostOf}
use Rattle.waff_limits.specs.Locks.{ticks_locked, ticks_needed}
use Rattle.waff_limits.specs.Limits.{AreLimits, ticks_of}
use Rattle.waff_limits.specs.Writes.{ticks_shared}
use Rattle.waff_limits.specs.declared.data.CellUse.{CellUse}
use Rattle.waff_limits.specs.declared.limits.Limits.{Limits}

-- the greatest sum of the costs of messages that run in one affinity or above it
abbrev pub tree_ticks : Hierarchy → List Message → List Held → ℕ
tree_ticks layout messages assigned =
    greatest (map (path_cost layout.tree assigned (work_of_messages messages)) (range_with_len 0 (length layout.tree)))

-- the spaces with shared locks are among those of the others
abbrev pub SharesNoMore : List Space → List Space → Type 0
SharesNoMore spaces others =
    (cell : Cell) → locking_of spaces cell ≡ Shared → locking_of others cell ≡ Shared

-- under whichever hierarchy whose shared spaces are among those of these, this or what messages need of a lock is for at least as many
-- ticks as they need a cell in these
abbrev pub DataBoundsTree : List Space → Hierarchy → List Message → List Held → Type 0
DataBoundsTree spaces layout messages assigned =
    IsLayout layout → IsAssignment layout messages assigned → SharesNoMore layout.spaces spaces
    → (locks : Option CellUse) → IsMostOf (ticks_locked layout.spaces messages assigned) locks
    → (cell : Cell) → IsCell layout.spaces cell
    → ticks_needed spaces messages cell ≤ max (tree_ticks layout messages assigned) (ticks_of locks)

-- what messages need of a cell where those that only read it share it is no more than what they need of the cell that they need longest in
-- whichever spaces
abbrev pub WritesBoundData : List Space → List Message → Type 0
WritesBoundData spaces messages =
    (writes used : Option CellUse) → IsMostOf (ticks_shared messages) writes → IsMostOf (ticks_needed spaces messages) used
    → ticks_of writes ≤ ticks_of used

-- an instance of a layout: a trace over its spaces, and what each message holds under it
pub record IsUnder (layout : Hierarchy) (instance : Instance) : Type 0 where
  pub is_layout : IsLayout layout
  pub tree : layout.tree ≡ instance.tree
  pub is_trace : IsTrace instance.trace
  pub fits : instance.trace.sizes ≡ sizes_of layout.spaces
  pub assignment : IsAssignment layout instance.trace.messages instance.assigned

-- the greatest of what limits in whatever order, for so many workers or without a limit on them
abbrev pub greatest_limit : Option ℕ → Limits → ℕ
greatest_limit workers limits =
    max (share_in workers limits.total)
    (max limits.client.ticks (max limits.after.ticks (max (ticks_of limits.writes)
    (max (ticks_of limits.cell) (max limits.path.ticks (ticks_of limits.locks))))))

-- it is the lower bound on the length of plans
abbrev pub LimitsAreLowerBound : Instance → Type 0
LimitsAreLowerBound instance =
    (layout : Hierarchy) (workers : Option ℕ) (start : ℕ → ℕ) (limits : Limits) → IsUnder layout instance
    → AreLimits layout.spaces instance start limits → greatest_limit workers limits ≡ lower_bound_of workers instance.tree instance.assigned (work_of_instance instance)

-- no plan for as many workers that obeys in whatever order is shorter
abbrev pub NoneIsBelowLimits : Instance → Type 0
NoneIsBelowLimits instance =
    (layout : Hierarchy) (workers : Option ℕ) (start other : ℕ → ℕ) (limits : Limits) → IsUnder layout instance → IfSome workers IsWorkers
    → AreLimits layout.spaces instance start limits → ObeysInSomeOrder instance.tree instance.assigned (work_of_instance instance) workers other
    → greatest_limit workers limits ≤ length_of (work_of_instance instance) other

-- lists make nothing less of what clients need
abbrev pub AfterIsNotBelow : Instance → Type 0
AfterIsNotBelow instance =
    (spaces : List Space) (start : ℕ → ℕ) (limits : Limits) → AreLimits spaces instance start limits → limits.client.ticks ≤ limits.after.ticks

-- and where all are empty, nothing more
abbrev pub NoListsAddNothing : Instance → Type 0
NoListsAddNothing instance =
    (spaces : List Space) (start : ℕ → ℕ) (limits : Limits) → AreLimits spaces instance start limits → All (λ message. message.after ≡ []) instance.trace.messages
    → limits.client ≡ limits.after

-- a plan keeps the order of another: before messages have clients that of the trace, which both keep, and then it serves as the other
abbrev pub KeepsOrderWhere : Bool → Instance → (ℕ → ℕ) → (ℕ → ℕ) → Type 0
KeepsOrderWhere false instance start other = Obeys (before_in instance) (work_of_instance instance) other
KeepsOrderWhere true instance start other = ServesAs instance.tree instance.assigned (work_of_instance instance) start other

-- no plan that keeps the order of the unlimited plan is shorter than it
abbrev pub OrderIsShortest : Instance → Type 0
OrderIsShortest instance =
    (layout : Hierarchy) (start other : ℕ → ℕ) (limits : Limits) → IsUnder layout instance
    → IsLeast (served_first instance start) (work_of_instance instance) start → AreLimits layout.spaces instance start limits
    → KeepsOrderWhere (has_clients instance.trace.version) instance start other → limits.order ≤ length_of (work_of_instance instance) other

-- the unlimited plan is no shorter than what the clients, the lists, the cells, the tree and the locks allow
abbrev pub OrderIsNotBelow : Instance → Type 0
OrderIsNotBelow instance =
    (layout : Hierarchy) (start : ℕ → ℕ) (limits : Limits) → IsUnder layout instance
    → IsLeast (served_first instance start) (work_of_instance instance) start → AreLimits layout.spaces instance start limits
    → greatest_limit None limits ≤ limits.order

-- a message that may start at once: it has no release, no think time, no client and no list
pub record StartsAtOnce (message : Message) : Type 0 where
  pub no_release : message.release ≡ 0
  pub no_think : message.think ≡ 0
  pub no_client : message.client ≡ no_client
  pub no_list : message.after ≡ []

-- where all messages may, and none uses a lock, a plan that obeys in some order is as long as what runs on one path of affinities
abbrev pub PathIsReached : Instance → Type 0
PathIsReached instance =
    (layout : Hierarchy) (start : ℕ → ℕ) (limits : Limits) → IsUnder layout instance
    → AreLimits layout.spaces instance start limits → AreUnlocked instance.assigned → All StartsAtOnce instance.trace.messages
    → (other : ℕ → ℕ) × ObeysInSomeOrder instance.tree instance.assigned (work_of_instance instance) None other
    × (length_of (work_of_instance instance) other ≡ limits.path.ticks)

-- a message that waits for what it awaits alone has finished its cost after its issue
abbrev pub ClientsFinish : Work → Type 0
ClientsFinish work =
    AwaitsEarlier work → (m : ℕ) → IsNumber work m
    → earliest_finish work m
    ≡ issue_after (earliest_finish work) (work.floor m) (work.awaits m) + work.cost m

-- what limits a workload is one
abbrev pub LimitsAreOne : Instance → Type 0
LimitsAreOne instance =
    (spaces : List Space) (start other : ℕ → ℕ) (one another : Limits) → AreSame (work_of_instance instance) start other
    → AreLimits spaces instance start one → AreLimits spaces instance other another → one ≡ another
