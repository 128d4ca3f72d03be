-- What holds of the rounding of the turns of a run.
use Rattle.std.specs.Prelude.{◌≡◌, ℕ, ◌-◌, ◌≤◌, List, length}
use Rattle.waff_assign.specs.Order.{IsOrdered, Relation}
use Rattle.waff_plan.specs.Apart.{AreApart}
use Rattle.waff_plan.specs.Obeys.{EachRuns, AwaitsEarlier, KeepsOrder, StartsIssued}
use Rattle.waff_plan.specs.Serving.{served_before}
use Rattle.waff_plan.specs.Work.{Work, IsNumber, finish_of}
use Rattle.waff_plan.specs.Workers.{running}
use Rattle.waff_check.specs.Promises.{AreOneAtATime}
use Rattle.waff_line.specs.Machine.{Course}
use Rattle.waff_line.specs.Scaled.{scaled}
use Rattle.waff_line.specs.Turns.{AreRunTurns}
use Rattle.waff_line.specs.declared.turn.Turn.{Turn}
use Rattle.waff_record.specs.Rounded.{IsRounded}
use Rattle.waff_record.specs.Turns.{turn_at, worker_of}

-- the work as it was measured, in nanoseconds: each message costs what lies between its start and its finish
abbrev pub measured_by : Course → List Turn → Work
measured_by course turns = record {
  count = course.work.count;
  cost = λ n. (turn_at turns n).finish - (turn_at turns n).start;
  floor = course.work.floor;
  awaits = course.work.awaits;
}

-- the order in which a run served messages that exclude each other: that of their issues, in nanoseconds, and before the
-- third version that of the trace
abbrev pub run_order : Course → List Turn → Relation
run_order course turns =
    served_before course.version course.tree course.assigned (measured_by course turns) (λ n. (turn_at turns n).start)

-- a plan of what was told of turns:
-- - no message starts before it is issued, and each runs for a tick at least;
-- - none starts before those have finished that exclude it and were served first;
-- - at each tick at most as many messages run as there are workers, each on a worker of its own, and no two of
--   them exclude each other
pub record TellsTurns (course : Course) (turns : List Turn) (work : Work) (start : ℕ → ℕ) : Type 0 where
  pub issued : StartsIssued work start
  pub runs : EachRuns work
  pub order : KeepsOrder (run_order course turns) work start
  pub within : (t : ℕ) → running work start t ≤ course.workers
  pub seated : AreOneAtATime work start (worker_of turns) course.workers
  pub apart : AreApart (IsOrdered course.tree course.assigned) work start

-- a course of a run: each message awaits earlier ones or none, and of each it is known what it holds
pub record IsRunCourse (course : Course) (ticks : Work) (tick : ℕ) : Type 0 where
  pub work_is : course.work ≡ scaled tick ticks
  pub earlier : AwaitsEarlier ticks
  pub many : length course.assigned ≡ ticks.count

-- the rounding of the turns of a run is such a plan
abbrev pub RoundingTells : Course → Work → ℕ → List Turn → Type 0
RoundingTells course ticks tick turns =
    IsRunCourse course ticks tick → AreRunTurns course turns → (work : Work) (start : ℕ → ℕ)
    → IsRounded course ticks tick turns work start → TellsTurns course turns work start

-- turns have one rounding
abbrev pub RoundingIsOne : Course → Work → ℕ → List Turn → Type 0
RoundingIsOne course ticks tick turns =
    IsRunCourse course ticks tick → AreRunTurns course turns → (work other : Work) (start again : ℕ → ℕ)
    → IsRounded course ticks tick turns work start → IsRounded course ticks tick turns other again
    → (m : ℕ) → IsNumber ticks m → (start m ≡ again m) × (finish_of work start m ≡ finish_of other again m)
