-- What holds of the machine of a run, whatever it is told and whichever message begins of those that may.
use Rattle.std.specs.Prelude.{◌≡◌, ◌≢◌, ◌⊎◌, ℕ, ◌≤◌, Bool, false, ◌==◌, List, count_by}
use Rattle.waff_assign.specs.Held.{ExcludeEachOther}
use Rattle.waff_assign.specs.Order.{Relation, held_of}
use Rattle.waff_plan.specs.Obeys.{EachRuns, Obeys}
use Rattle.waff_plan.specs.Serving.{served_before}
use Rattle.waff_plan.specs.Work.{IsAmongFirst}
use Rattle.waff_plan.specs.Workers.{IsWorkerPlan}
use Rattle.waff_line.specs.Machine.{Course, State, IsRunning, HasBegun, HasEnded, MayBegin, Reaches, Runs}
use Rattle.waff_line.specs.Machine.{finish_in, measured, opening, start_in, told, turn_of}
use Rattle.waff_line.specs.declared.event.Event.{Event}
use Rattle.waff_line.specs.declared.event.Event.TheVariants.{Begin, End}

-- every message has ended
abbrev pub AreAllEnded : Course → State → Type 0
AreAllEnded course s = (n : ℕ) → IsAmongFirst course.work.count n → HasEnded s n

-- the order in which messages that exclude each other are served
abbrev pub order_in : Course → State → Relation
order_in course s =
    served_before course.version course.tree course.assigned (measured course s) (start_in s)

-- where all have ended, the starts are a plan for the measured work that obeys the order in which it issues
-- the messages itself, or before the third version that of the trace
abbrev pub RunObeys : Course → Type 0
RunObeys course =
    (s : State) → Reaches course s → AreAllEnded course s
    → Obeys (order_in course s) (measured course s) (start_in s)

-- and each message has run for a nanosecond at least
abbrev pub EachHasRun : Course → Type 0
EachHasRun course =
    (s : State) → Reaches course s → AreAllEnded course s → EachRuns (measured course s)

-- and it is a plan for the workers of the course: at no time more messages run than there are workers
abbrev pub RunIsWorkerPlan : Course → Type 0
RunIsWorkerPlan course =
    (s : State) → Reaches course s → AreAllEnded course s
    → IsWorkerPlan (order_in course s) (measured course s) course.workers (start_in s)

-- a message that has begun is on one of the workers of the course
abbrev pub WorkersAreThere : Course → Type 0
WorkersAreThere course =
    (s : State) → Reaches course s → (n : ℕ) → HasBegun s n
    → IsAmongFirst course.workers (turn_of s n).worker

-- messages that run are on workers of their own
abbrev pub WorkersAreOwn : Course → Type 0
WorkersAreOwn course =
    (s : State) → Reaches course s → (i j : ℕ) → i ≢ j → IsRunning s i → IsRunning s j
    → (turn_of s i).worker ≢ (turn_of s j).worker

-- a worker has run one message after another
abbrev pub OneAfterAnother : Course → Type 0
OneAfterAnother course =
    (s : State) → Reaches course s → (i j : ℕ) → i ≢ j → HasEnded s i → HasEnded s j
    → (turn_of s i).worker ≡ (turn_of s j).worker
    → (finish_in s i ≤ start_in s j) ⊎ (finish_in s j ≤ start_in s i)

-- messages that run do not exclude each other
abbrev pub RunningExcludeNobody : Course → Type 0
RunningExcludeNobody course =
    (s : State) → Reaches course s → (i j : ℕ) → i ≢ j → IsRunning s i → IsRunning s j
    → ¬ ExcludeEachOther course.tree (held_of course.assigned i) (held_of course.assigned j)

-- a message may begin on a worker, once the machine is told the time
pub record BeginsWhenTold (course : Course) (s : State) : Type 0 where
  pub now : ℕ
  pub worker : ℕ
  pub message : ℕ
  pub may : MayBegin course (told s now) worker message

-- all messages have ended, or some message runs, and so may end, or one may begin once it is late enough
abbrev pub NeverStuck : Course → Type 0
NeverStuck course =
    (s : State) → Reaches course s
    → AreAllEnded course s ⊎ (((n : ℕ) × IsRunning s n) ⊎ BeginsWhenTold course s)

-- from each state that is reached some events lead to one in which all messages have ended
abbrev pub CanEnd : Course → Type 0
CanEnd course =
    (s : State) → Reaches course s
    → (events : List Event) × (t : State) × Runs course s events t × AreAllEnded course t

-- whether by the event message n begins
abbrev pub begins : ℕ → Event → Bool
begins n (Begin x m) = m == n
begins n event = false

-- whether by the event message n ends
abbrev pub ends : ℕ → Event → Bool
ends n (End m now) = m == n
ends n event = false

-- no message begins twice or ends twice
pub record BeginsOnce (events : List Event) (n : ℕ) : Type 0 where
  pub begun : count_by (begins n) events ≤ 1
  pub ended : count_by (ends n) events ≤ 1

abbrev pub RunsOnce : Course → Type 0
RunsOnce course =
    (events : List Event) (s : State) → Runs course (opening course) events s
    → (n : ℕ) → BeginsOnce events n

-- a message that has begun has done so by one event, and one that has ended by one
pub record HasRunOnce (events : List Event) (s : State) (n : ℕ) : Type 0 where
  pub begun : HasBegun s n → count_by (begins n) events ≡ 1
  pub ended : HasEnded s n → count_by (ends n) events ≡ 1

abbrev pub RunsEachOnce : Course → Type 0
RunsEachOnce course =
    (events : List Event) (s : State) → Runs course (opening course) events s
    → (n : ℕ) → HasRunOnce events s n
