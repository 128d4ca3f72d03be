-- The order in which a trace is replayed.
use Rattle.std.specs.Prelude.{◌≡◌, ℕ, Bool, true, false, List, length}
use Rattle.std.specs.List.{range_with_len}
use Rattle.waff_model.specs.Messages.{Arrivals}
use Rattle.waff_model.specs.Tree.{Node}
use Rattle.waff_model.specs.Versions.{has_clients}
use Rattle.waff_assign.specs.Order.{IsOrdered}
use Rattle.waff_plan.specs.Timetable.{work_of_messages}
use Rattle.waff_list.specs.ListRule.{IsListPlan, IsTakenFirst, arrival}
use Rattle.waff_list.specs.Seats.{IsInOrder}
use Rattle.waff_assign.specs.Held.{Held}

-- the messages of the trace in the order of their list plan by arrival for k workers
pub record IsListOrder (tree : List Node) (assigned : List Held) (trace : Arrivals) (k : ℕ)
    (order : List ℕ) : Type 0 where
  pub start : ℕ → ℕ
  pub plan : IsListPlan (IsOrdered tree assigned) (IsTakenFirst arrival)
      (work_of_messages trace.messages) k start
  pub listed : IsInOrder (work_of_messages trace.messages) start order

-- the order of the job: that of the list plan, and where messages have clients that of the trace, for
-- which releases, think times, clients and what messages await count for nothing
abbrev pub IsReplayOrderWhere : Bool → List Node → List Held → Arrivals → ℕ → List ℕ → Type 0
IsReplayOrderWhere false tree assigned trace k order = IsListOrder tree assigned trace k order
IsReplayOrderWhere true tree assigned trace k order = order ≡ range_with_len 1 (length trace.messages)

abbrev pub IsReplayOrder : List Node → List Held → Arrivals → ℕ → List ℕ → Type 0
IsReplayOrder tree assigned trace k order =
    IsReplayOrderWhere (has_clients trace.version) tree assigned trace k order
