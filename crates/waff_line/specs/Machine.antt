-- The machine of a run: it is told the time, messages begin on workers, and they end. Which of them have
-- been issued, and in which order, follows from what it has noted. Times are nanoseconds from the beginning of the run.
use Rattle.std.specs.Prelude.{◌≡◌, ◌≢◌, ℕ, zero, suc, ◌+◌, ◌-◌, ◌≤◌, max, Bool, true, false}
use Rattle.std.specs.Prelude.{List, [], ◌∷◌, length, replicate, slice_index_or, slice_set, if◌then◌else◌}
use Rattle.waff_model.specs.Tree.{Node}
use Rattle.waff_model.specs.Versions.{has_clients}
use Rattle.waff_model.specs.declared.message.Version.{Version}
use Rattle.waff_assign.specs.Held.{Held}
use Rattle.waff_plan.specs.Obeys.{AwaitsEarlier, AwaitsNone}
use Rattle.waff_plan.specs.Order.{Serves, key_of}
use Rattle.waff_plan.specs.Work.{Work, IsAmongFirst, IsAwaited, issue_of}
use Rattle.waff_line.specs.declared.event.Event.{Event}
use Rattle.waff_line.specs.declared.event.Event.TheVariants.{Tell, Begin, End}

-- what a run is of: the version of its trace, the tree and what the messages hold, the work in nanoseconds, whose
-- costs count for nothing, and how many workers there are
pub record Course : Type 0 where
  pub version : Version
  pub tree : List Node
  pub assigned : List Held
  pub work : Work
  pub workers : ℕ

-- each message awaits earlier ones or none, without clients none; of each it is known what it holds; and there is a
-- worker
pub record IsCourse (course : Course) : Type 0 where
  pub earlier : AwaitsEarlier course.work
  pub alone : has_clients course.version ≡ false → AwaitsNone course.work
  pub many : course.work.count ≡ length course.assigned
  pub staffed : 1 ≤ course.workers

-- what is known of a message: its worker, from 1, or 0 where it has not begun; the time at which it began;
-- whether it has ended, and when
pub record Turn : Type 0 where
  pub worker : ℕ
  pub start : ℕ
  pub ended : Bool
  pub finish : ℕ

-- the turn of a message that has not begun
abbrev pub no_turn : Turn
no_turn = record { worker = 0; start = 0; ended = false; finish = 0 }

-- a state of the machine: the greatest time that it knows of, and the turns of messages 1, 2 and so on
pub record State : Type 0 where
  pub clock : ℕ
  pub turns : List Turn

-- the turn of message n
abbrev pub turn_of : State → ℕ → Turn
turn_of s zero = no_turn
turn_of s (suc n) = slice_index_or s.turns n no_turn

-- the start and the finish of message n
abbrev pub start_in : State → ℕ → ℕ
start_in s n = (turn_of s n).start

abbrev pub finish_in : State → ℕ → ℕ
finish_in s n = (turn_of s n).finish

-- message n has begun
abbrev pub HasBegun : State → ℕ → Type 0
HasBegun s n = 1 ≤ (turn_of s n).worker

-- message n has ended
abbrev pub HasEnded : State → ℕ → Type 0
HasEnded s n = (turn_of s n).ended ≡ true

-- message n runs: it has begun and has not ended
pub record IsRunning (s : State) (n : ℕ) : Type 0 where
  pub begun : HasBegun s n
  pub runs : (turn_of s n).ended ≡ false

-- no message runs on worker x
abbrev pub IsFree : State → ℕ → Type 0
IsFree s x = (n : ℕ) → IsRunning s n → (turn_of s n).worker ≢ x

-- the work as it was measured: each message costs what lies between its start and its finish
abbrev pub measured : Course → State → Work
measured course s = record {
  count = course.work.count;
  cost = λ n. finish_in s n - start_in s n;
  floor = course.work.floor;
  awaits = course.work.awaits;
}

-- the time at which message n is issued
abbrev pub issue_in : Course → State → ℕ → ℕ
issue_in course s = issue_of (measured course s) (start_in s)

-- the key by which messages are served
abbrev pub key_in : Course → State → ℕ → ℕ
key_in course s = key_of course.version (measured course s) (start_in s)

-- message n is issued: those that it awaits have ended, or it awaits none
abbrev pub IsIssued : Course → State → ℕ → Type 0
IsIssued course s n = (i : ℕ) → IsAwaited (course.work.awaits n) i → HasEnded s i

-- the issue has come at this time. Of messages of clients, where what is issued first is served first, that is a
-- nanosecond after the issue, when all that are issued then are known
abbrev pub HasCome : Version → ℕ → ℕ → Type 0
HasCome version issue clock = issue + (if has_clients version then 1 else 0) ≤ clock

-- of the messages that are issued each one that is served before message n has ended
abbrev pub IsClear : Course → State → ℕ → Type 0
IsClear course s n =
    (i : ℕ) → IsIssued course s i
    → Serves course.tree course.assigned (measured course s) (key_in course s) i n → HasEnded s i

-- message n may begin on worker x
pub record MayBegin (course : Course) (s : State) (x n : ℕ) : Type 0 where
  pub worker : IsAmongFirst course.workers x
  pub free : IsFree s x
  pub number : IsAmongFirst course.work.count n
  pub waits : ¬ HasBegun s n
  pub issued : IsIssued course s n
  pub come : HasCome course.version (issue_in course s n) s.clock
  pub clear : IsClear course s n

-- no message may begin on worker x
abbrev pub NobodyMayBegin : Course → State → ℕ → Type 0
NobodyMayBegin course s x = (n : ℕ) → MayBegin course s x n → ⊥

-- the state with another turn of message n
abbrev pub with_turn : State → ℕ → Turn → State
with_turn s n turn = record { clock = s.clock; turns = slice_set s.turns (n - 1) turn }

-- the state with another time
abbrev pub with_clock : State → ℕ → State
with_clock s clock = record { clock = clock; turns = s.turns }

-- the state that has been told the time: an earlier one than it knows of counts for nothing
abbrev pub told : State → ℕ → State
told s now = with_clock s (max s.clock now)

-- the state in which message n has begun on worker x
abbrev pub begun_on : State → ℕ → ℕ → State
begun_on s x n =
    with_turn s n (record { worker = x; start = s.clock; ended = false; finish = 0 })

-- the time at which message n finishes that ends when it is now: no time that was known before is later, and
-- at least a nanosecond after its start
abbrev pub finish_at : State → ℕ → ℕ → ℕ
finish_at s n now = max (max now s.clock) (start_in s n + 1)

-- the turn of a message that has finished at this time
abbrev pub ended_turn : Turn → ℕ → Turn
ended_turn turn finish = record {
  worker = turn.worker;
  start = turn.start;
  ended = true;
  finish = finish;
}

-- the state in which message n has ended
abbrev pub ended_at : State → ℕ → ℕ → State
ended_at s n now =
    with_clock (with_turn s n (ended_turn (turn_of s n) (finish_at s n now))) (finish_at s n now)

-- the event leads from one state to another: it is told the time, a message that may begin begins, or one
-- that runs ends
abbrev pub Steps : Course → State → Event → State → Type 0
Steps course s (Tell now) t = t ≡ told s now
Steps course s (Begin x n) t = MayBegin course s x n × (t ≡ begun_on s x n)
Steps course s (End n now) t = IsRunning s n × (t ≡ ended_at s n now)

-- the state in which a run opens: no message has begun
abbrev pub opening : Course → State
opening course = record { clock = 0; turns = replicate course.work.count no_turn }

-- the events lead from one state to another
abbrev pub Runs : Course → State → List Event → State → Type 0
Runs course s [] t = s ≡ t
Runs course s (event ∷ events) t = (u : State) × Steps course s event u × Runs course u events t

-- a run of the course reaches the state: some events lead to it from the opening
abbrev pub Reaches : Course → State → Type 0
Reaches course s = (events : List Event) × Runs course (opening course) events s
