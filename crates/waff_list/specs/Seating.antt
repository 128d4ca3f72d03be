-- A plan for k workers: the plan with the worker of each message, and the messages in the order of
-- their starts.
use Rattle.std.specs.Prelude.{◌≡◌, ℕ, ◌-◌, ◌≤◌, List, length, All, slice_index}
use Rattle.waff_plan.specs.Timetable.{Timetable}
use Rattle.waff_plan.specs.Timing.{work_of}
use Rattle.waff_plan.specs.Work.{IsAmongFirst, IsNumber}
use Rattle.waff_model.specs.declared.limits.TheConstants.{MAX_WORKERS}

pub record Seating : Type 0 where
  pub plan : Timetable
  pub workers : ℕ
  pub seats : List ℕ
  pub order : List ℕ

-- each message has a worker, one of at most 64, and the order lists messages
pub record IsSeating (seating : Seating) : Type 0 where
  pub seats_count : length seating.seats ≡ length seating.plan.timings
  pub known : All (IsAmongFirst seating.workers) seating.seats
  pub messages : All (IsNumber (work_of seating.plan.timings)) seating.order
  pub some : 1 ≤ seating.workers
  pub few : seating.workers ≤ MAX_WORKERS

-- the worker of message n, from 1
abbrev pub worker_of : List ℕ → ℕ → ℕ
worker_of seats n = slice_index seats (n - 1)
