-- What a run tells of its messages, and what holds of it.
use Rattle.std.specs.Prelude.{◌≡◌, ◌≢◌, ◌⊎◌, ℕ, ◌≤◌, List, [], map, count_by}
use Rattle.waff_model.specs.declared.message.Version.TheVariants.{V1}
use Rattle.waff_assign.specs.Instance.{Instance}
use Rattle.waff_assign.specs.Order.{IsOrdered}
use Rattle.waff_plan.specs.Apart.{AreApart}
use Rattle.waff_plan.specs.Obeys.{EachRuns}
use Rattle.waff_plan.specs.Timetable.{work_of_messages}
use Rattle.waff_plan.specs.Work.{IsAmongFirst}
use Rattle.waff_plan.specs.Workers.{IsWorkerPlan}
use Rattle.waff_line.specs.Laws.{AreAllEnded, begins, ends, order_in}
use Rattle.waff_line.specs.Machine.{Course, Reaches, Runs, State, finish_in, measured, opening, start_in, turn_of}
use Rattle.waff_line.specs.Noted.{shown}
use Rattle.waff_line.specs.Scaled.{scaled}
use Rattle.waff_line.specs.declared.event.Event.{Event}
use Rattle.waff_line.specs.declared.turn.Turn.{Turn}

-- what a run of an instance by so many workers is of, where a tick of its trace is so many nanoseconds
abbrev pub course_by : Instance → ℕ → ℕ → Course
course_by instance workers tick = record {
  version = instance.trace.version;
  tree = instance.tree;
  assigned = instance.assigned;
  work = scaled tick (work_of_messages instance.trace.messages);
  workers = workers;
}

-- the course of no message
abbrev pub no_course : Course
no_course = record {
  version = V1;
  tree = [];
  assigned = [];
  work = work_of_messages [];
  workers = 0;
}

-- turns are those of a state that a run of the course reaches
pub record AreReached (course : Course) (turns : List Turn) : Type 0 where
  pub state : State
  pub reached : Reaches course state
  pub shown : map shown turns ≡ state.turns

-- message n has one of the workers, from 1, and each other message of that worker has finished by its start, or
-- starts when it has finished
pub record IsSeated (course : Course) (s : State) (n : ℕ) : Type 0 where
  pub worker : IsAmongFirst course.workers (turn_of s n).worker
  pub alone : (m : ℕ) → IsAmongFirst course.work.count m → m ≢ n
      → (turn_of s m).worker ≡ (turn_of s n).worker
      → (finish_in s m ≤ start_in s n) ⊎ (finish_in s n ≤ start_in s m)

-- message n began by one event, and ended by one
pub record RunsOnce (events : List Event) (n : ℕ) : Type 0 where
  pub begun : count_by (begins n) events ≡ 1
  pub ended : count_by (ends n) events ≡ 1

-- what the events of a run left is a plan of the measured work:
-- - it obeys, in the order in which it issues messages itself, before the third version in that of the trace, and
--   at no time more messages run than there are workers;
-- - each message ran for a nanosecond at least, and runs once;
-- - the messages of one worker run one after another;
-- - no two messages that exclude each other run at one time
pub record ArePlanned (course : Course) (events : List Event) (s : State) : Type 0 where
  pub plan : IsWorkerPlan (order_in course s) (measured course s) course.workers (start_in s)
  pub runs : EachRuns (measured course s)
  pub once : (n : ℕ) → IsAmongFirst course.work.count n → RunsOnce events n
  pub seated : (n : ℕ) → IsAmongFirst course.work.count n → IsSeated course s n
  pub apart : AreApart (IsOrdered course.tree course.assigned) (measured course s) (start_in s)

-- what a run tells of its messages: the turns that are left where events of the machine, accepted one after another
-- from the opening, have ended them all
pub record AreRunTurns (course : Course) (turns : List Turn) : Type 0 where
  pub events : List Event
  pub state : State
  pub run : Runs course (opening course) events state
  pub shown : map shown turns ≡ state.turns
  pub ended : AreAllEnded course state
  pub planned : ArePlanned course events state
