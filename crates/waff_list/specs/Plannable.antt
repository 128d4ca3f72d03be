-- A list plan in an order of service while it is made, and when it is made. A message waits from its
-- issue on, for no more than its needs.
use Rattle.std.specs.Prelude.{◌≡◌, ℕ, ◌≤◌, List, ◌++◌, length, All}
use Rattle.waff_model.specs.Numbers.{IsAmongFirst}
use Rattle.waff_model.specs.declared.limits.TheConstants.{MAX_TICK}
use Rattle.waff_plan.specs.Timing.{start_of}
use Rattle.waff_plan.specs.Work.{Work, IsNumber, finish_of}
use Rattle.waff_waits.specs.Times.{AreEach}
use Rattle.waff_waits.specs.Waits.{AreWaits, HasFinished, IsFree, WhoWaits}
use Rattle.waff_list.specs.ListRule.{IsListPlan}
use Rattle.waff_list.specs.Orders.{Order, TakesFirst}
use Rattle.waff_list.specs.Placed.{Pending, Placed}
use Rattle.waff_list.specs.Progress.{IsProgressOf}
use Rattle.waff_list.specs.Seating.{worker_of}
use Rattle.waff_list.specs.Seats.{IsInOrder}
use Rattle.waff_list.specs.Unique.{AreSeated}
use Rattle.waff_list.specs.Waiting.{AreFinishes, AreManned}

-- what is planned: messages with their work and their priorities, for so many workers, in an order of
-- service
pub record Plannable : Type 1 where
  pub order : Order
  pub work : Work
  pub priority : ℕ → ℕ
  pub workers : ℕ

-- the plan has been made up to the tick now and the message turn
abbrev pub IsPlannedTo : Plannable → Placed → ℕ → ℕ → ℕ → Type 0
IsPlannedTo p placed =
    IsProgressOf (p.order.before (start_of placed.starts))
    (TakesFirst p.priority (p.order.key (start_of placed.starts))) p.work p.workers placed

-- those of the messages have finished that finish by now
pub record HaveFinishedBy (work : Work) (start : ℕ → ℕ) (now : ℕ) (w : WhoWaits) : Type 0 where
  pub only : (i : ℕ) → IsNumber work i → HasFinished w i → finish_of work start i ≤ now
  pub each : (i : ℕ) → IsNumber work i → finish_of work start i ≤ now → HasFinished w i

-- what is kept at the tick now of the messages that run and of those that wait, where these are issued so
-- far and these needs are known
pub record IsKept (p : Plannable) (placed : Placed) (pending : Pending) (issued : List ℕ)
    (needs : List (List ℕ)) (now : ℕ) : Type 0 where
  -- the order of service knows what those that are issued need
  pub count : length needs ≡ p.work.count
  pub knows : p.order.knows issued needs
  -- a message that is issued waits for its needs that have not finished
  pub waits : AreWaits issued needs pending.waits
  pub over : HaveFinishedBy p.work (start_of placed.starts) now pending.waits
  -- those that run, each on a worker that is not idle
  pub finishes : AreFinishes p.work (start_of placed.starts) now pending.finishes
  pub manned : AreManned p.workers placed.seats pending.finishes pending.idle
  -- those that wait for nothing are placed or ready
  pub ready : AreEach (IsFree issued pending.waits) (placed.order ++ pending.ready)

-- all messages are placed
pub record IsMade (p : Plannable) (placed : Placed) : Type 0 where
  pub starts_count : length placed.starts ≡ p.work.count
  pub seats_count : length placed.seats ≡ p.work.count
  pub printable : All (λ start. start ≤ MAX_TICK) placed.starts
  pub plan : IsListPlan (p.order.before (start_of placed.starts))
      (TakesFirst p.priority (p.order.key (start_of placed.starts))) p.work p.workers
      (start_of placed.starts)
  pub seated : AreSeated p.work (start_of placed.starts) (worker_of placed.seats)
  pub known : All (IsAmongFirst p.workers) placed.seats
  pub listed : IsInOrder p.work (start_of placed.starts) placed.order
