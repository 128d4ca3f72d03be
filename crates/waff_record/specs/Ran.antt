-- A run whose messages have all ended, and what it is of.
use Rattle.std.specs.Prelude.{◌≡◌, ℕ, ◌*◌, ◌≤◌, List, Option, length}
use Rattle.waff_model.specs.Messages.{Arrivals}
use Rattle.waff_model.specs.declared.message.Message.{Message}
use Rattle.waff_assign.specs.Case.{instance_of}
use Rattle.waff_assign.specs.Instance.{Instance}
use Rattle.waff_assign.specs.declared.case.Case.{Case}
use Rattle.waff_plan.specs.Timetable.{Timetable, starts_in, timing_at, with_cost, work_in, work_of_messages}
use Rattle.waff_plan.specs.Timing.{timing_of}
use Rattle.waff_plan.specs.Work.{IsAmongFirst, IsNumber, Work, finish_of, length_of}
use Rattle.waff_plan.specs.declared.timing.Timing.{Timing}
use Rattle.waff_line.specs.Machine.{Course}
use Rattle.waff_line.specs.Turns.{AreRunTurns, course_by}
use Rattle.waff_record.specs.Drift.{drift_of, last_finish}
use Rattle.waff_record.specs.Rounded.{IsRounded}
use Rattle.waff_record.specs.Runs.{trace_told}
use Rattle.waff_record.specs.declared.rounding.TheConstants.{MAX_RUN}
use Rattle.waff_record.specs.declared.told_run.ToldRun.{ToldRun}
use Rattle.waff_record.specs.declared.turns.RunTurns.{RunTurns}

-- its course, in nanoseconds
abbrev pub course_run : RunTurns → Course
course_run run = course_by (instance_of run.case) run.workers run.tick

-- the work of its messages, in ticks
abbrev pub ticks_run : RunTurns → Work
ticks_run run = work_of_messages run.case.trace.now.messages

-- its turns are what events of the machine left
abbrev pub HasRun : RunTurns → Type 0
HasRun run = AreRunTurns (course_run run) run.turns.now

-- a plan is the rounding of its turns
abbrev pub IsToldOf : RunTurns → Timetable → Type 0
IsToldOf run plan =
    IsRounded (course_run run) (ticks_run run) run.tick run.turns.now (work_in plan) (starts_in plan)

-- timings are those of messages but for their costs
pub record AreTimingsOf (messages : List Message) (timings : List Timing) : Type 0 where
  pub count : length timings ≡ length messages
  pub each : (n : ℕ) → IsAmongFirst (length messages) n
      → timing_of timings n ≡ with_cost (timing_at messages n) (timing_of timings n).cost

-- no message of a plan finishes later than a run may last
abbrev pub IsTimely : Timetable → Type 0
IsTimely plan =
    (n : ℕ) → IsNumber (work_in plan) n → finish_of (work_in plan) (starts_in plan) n ≤ MAX_RUN

-- a run that has been, and its rounding
pub record IsToldRun (told : ToldRun) : Type 0 where
  pub ran : HasRun told.run
  pub plan : IsToldOf told.run told.plan.now
  pub timings : AreTimingsOf told.run.case.trace.now.messages told.plan.now.timings
  pub timely : IsTimely told.plan.now

-- its drift
abbrev pub drift_told : ToldRun → Option ℕ
drift_told told =
    drift_of (length_of (work_in told.plan.now) (starts_in told.plan.now) * told.run.tick)
    (last_finish told.run.turns.now)

-- what a trace is an instance of whose messages hold what those of a case do
abbrev pub instance_with : Case → Arrivals → Instance
instance_with case trace =
    record { tree = case.tree.now; assigned = case.assigned.now; trace = trace }

-- the trace with the costs that are told of a run, and what its messages held
abbrev pub instance_told : ToldRun → Instance
instance_told told = instance_with told.run.case (trace_told told.run.case.trace.now told.plan.now)
