-- A list plan while it is made, tick after tick, and at each tick message after message. A message
-- that is not placed yet has the start `never`, which is later than every tick.
use Rattle.std.specs.Prelude.{◌≡◌, ◌≢◌, ℕ, ◌<◌, ◌≤◌, ◌⊎◌, List, length, All, AllPairs}
use Rattle.std.specs.Prelude.{Contains}
use Rattle.waff_assign.specs.Order.{Relation}
use Rattle.waff_plan.specs.Work.{Work, IsNumber, finish_of, gap_of, issue_of}
use Rattle.waff_plan.specs.Workers.{running}
use Rattle.waff_plan.specs.Timing.{start_of}
pub use Rattle.waff_plan.specs.Timetable.{work_of_messages}
use Rattle.waff_list.specs.ListRule.{IsReady}
use Rattle.waff_list.specs.Placed.{Placed}
use Rattle.waff_list.specs.Seating.{worker_of}
use Rattle.waff_list.specs.Seats.{ComesBefore, IsSeated}
use Rattle.waff_model.specs.declared.limits.TheConstants.{MAX_COST, MAX_RELEASE, MAX_THINK}
use Rattle.waff_plan.specs.declared.due.TheConstants.{NEVER}

-- the messages that are placed have started by now, and at now they are below the message turn; they
-- obey, have their workers, and follow the list rule at each tick before end
pub record IsSettled (before first : Relation) (work : Work) (workers : ℕ)
    (start worker : ℕ → ℕ) (now turn end : ℕ) : Type 0 where
  pub placed : (m : ℕ) → IsNumber work m → (start m ≤ now) ⊎ (start m ≡ NEVER)
  pub turns : (m : ℕ) → IsNumber work m → start m ≡ now → m < turn
  pub issued : (m : ℕ) → IsNumber work m → start m ≤ now → issue_of work start m ≤ start m
  pub ordered : (i j : ℕ) → before i j → start j ≤ now
      → finish_of work start i ≤ start j
  pub seated : (m : ℕ) → IsNumber work m → start m ≤ now → IsSeated work start worker m
  pub within : (m : ℕ) → IsNumber work m → start m ≤ now → worker m ≤ workers
  pub busy : (t m : ℕ) → t < end → IsReady before work start t m → t < start m
      → running work start t ≡ workers
  pub in_turn : (t m other : ℕ) → t < end → IsReady before work start t m
      → t < start m → IsNumber work other → first m other → start other ≢ t

-- the order lists the messages that are placed, those that come before others first
pub record IsOrderSoFar (work : Work) (start : ℕ → ℕ) (now : ℕ) (order : List ℕ) : Type 0 where
  pub messages : All (λ m. IsNumber work m × (start m ≤ now)) order
  pub each : (m : ℕ) → IsNumber work m → start m ≤ now → Contains order m
  pub sorted : AllPairs (ComesBefore start) order

-- the plan has been made up to the tick now and the message turn
pub record IsProgressOf (before first : Relation) (work : Work) (workers : ℕ)
    (placed : Placed) (now turn end : ℕ) : Type 0 where
  pub starts_count : length placed.starts ≡ work.count
  pub seats_count : length placed.seats ≡ work.count
  pub settled : IsSettled before first work workers
      (start_of placed.starts) (worker_of placed.seats) now turn end
  pub listed : IsOrderSoFar work (start_of placed.starts) now placed.order

-- each message runs at least one tick, and costs, releases and gaps are within the limits
pub record IsSmall (work : Work) : Type 0 where
  pub some_cost : (m : ℕ) → IsNumber work m → 1 ≤ work.cost m
  pub cost : (m : ℕ) → IsNumber work m → work.cost m ≤ MAX_COST
  pub floor : (m : ℕ) → IsNumber work m → work.floor m ≤ MAX_RELEASE
  pub gap : (i m : ℕ) → IsNumber work m → gap_of work i m ≤ MAX_THINK
