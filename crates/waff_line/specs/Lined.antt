-- The line of a run: what it is of and its state, and how the order in which messages are served is kept.
use Rattle.std.specs.Prelude.{◌≡◌, ℕ, ◌-◌, ◌<◌, ◌≤◌, ◌⊎◌, List, [], map, length, Contains}
use Rattle.std.specs.Prelude.{◌++◌, ◌↔◌, Bool, true, slice_index, IsPermutation, if◌then◌else◌}
use Rattle.std.specs.List.{range_with_len}
use Rattle.waff_model.specs.Tree.{Node}
use Rattle.waff_model.specs.Versions.{has_clients}
use Rattle.waff_model.specs.declared.message.Version.{Version}
use Rattle.waff_model.specs.declared.preorder.Span.{Span}
use Rattle.waff_assign.specs.Held.{Held}
use Rattle.waff_assign.specs.Order.{held_of}
use Rattle.waff_order.specs.Joined.{Joined, HaveJoined}
use Rattle.waff_waits.specs.Times.{AreEach, times}
use Rattle.waff_waits.specs.Waits.{WhoWaits}
use Rattle.waff_plan.specs.Awaiting.{AreAwaiting}
use Rattle.waff_plan.specs.Due.{IsDueFirst}
use Rattle.waff_plan.specs.Order.{ComesBefore}
use Rattle.waff_plan.specs.Timing.{work_of}
use Rattle.waff_plan.specs.Work.{Work, IsAmongFirst, issue_after}
use Rattle.waff_plan.specs.declared.timing.Timing.{Timing}
use Rattle.waff_line.specs.Machine.{Course, State, HasEnded, IsIssued, finish_in, key_in}
use Rattle.waff_line.specs.Scaled.{scaled}

-- a line: what it is of, with the timings of the messages in ticks and the nanoseconds of a tick for the work, the
-- state of the machine that it is, and whether it is over: whether it lets none begin any more
pub record LineValue : Type 0 where
  pub version : Version
  pub tree : List Node
  pub assigned : List Held
  pub timings : List Timing
  pub tick : ℕ
  pub workers : ℕ
  pub state : State
  pub over : Bool

-- what a line is of
abbrev pub course_in : LineValue → Course
course_in line = record {
  version = line.version;
  tree = line.tree;
  assigned = line.assigned;
  work = scaled line.tick (work_of line.timings);
  workers = line.workers;
}

-- the message at this place of the order of service, from 1
abbrev pub served_at : List ℕ → ℕ → ℕ
served_at messages p = slice_index messages (p - 1)

-- those of the messages that are due which have still to join the order of service: without clients all have
-- joined from the beginning
abbrev pub latecomers : Version → List (ℕ × ℕ) → List (ℕ × ℕ)
latecomers version due = if has_clients version then due else []

-- a message that is issued, with the key by which it is served
pub record IsKeyed (course : Course) (s : State) (r : ℕ × ℕ) : Type 0 where
  pub number : IsAmongFirst course.work.count r.1
  pub issued : IsIssued course s r.1
  pub key : key_in course s r.1 ≡ r.0

-- these messages have joined the order of service, one after another as they are served, with their needs by
-- their places; what is issued and has not joined waits, and is served after those that have
pub record IsLined (course : Course) (s : State) (spans : List Span) (joining : Joined)
    (messages : List ℕ) (waits : List (ℕ × ℕ)) : Type 0 where
  pub joined : HaveJoined course.tree spans (map (held_of course.assigned) messages) joining
  pub each : (i : ℕ) → Contains messages i → IsAmongFirst course.work.count i × IsIssued course s i
  pub known : (i : ℕ) → IsAmongFirst course.work.count i → IsIssued course s i
      → Contains messages i ⊎ Contains waits (key_in course s i, i)
  pub sorted : (p q : ℕ) → p < q → q < length messages
      → ComesBefore (key_in course s) (slice_index messages q) (slice_index messages p) → ⊥
  pub later : (i : ℕ) (r : ℕ × ℕ) → Contains messages i → Contains waits r
      → IsDueFirst (key_in course s i, i) r
  pub come : has_clients course.version ≡ true → (i : ℕ) → Contains messages i → key_in course s i < s.clock
  pub waiting : (r : ℕ × ℕ) → Contains waits r → IsKeyed course s r

-- those of so many messages that have joined when a run begins: with clients none, else all
abbrev pub first_joined : Version → ℕ → List ℕ
first_joined version count = if has_clients version then [] else range_with_len 1 count

-- of the first n messages those that await none are due at their floors, each once, and no others
pub record AreFirstDue (work : Work) (n : ℕ) (due : List (ℕ × ℕ)) : Type 0 where
  pub number : (r : ℕ × ℕ) → Contains due r → IsAmongFirst n r.1
  pub floor : (r : ℕ × ℕ) → Contains due r → r.0 ≡ work.floor r.1
  pub alone : (r : ℕ × ℕ) → Contains due r → work.awaits r.1 ≡ []
  pub all : (m : ℕ) → IsAmongFirst n m → work.awaits m ≡ [] → Contains due (work.floor m, m)
  pub once : (m : ℕ) → times m (map (λ r. r.1) due) ≤ 1

-- each message waits for those that it awaits and that have not ended
pub record IsAwaiting (work : Work) (s : State) (w : WhoWaits) : Type 0 where
  pub ended : List ℕ
  pub each : (i : ℕ) → IsAmongFirst work.count i → HasEnded s i ↔ Contains ended i
  pub awaiting : AreAwaiting work ended w

-- the time at which a message is issued, where those that it awaits have finished as they did in the state
abbrev pub issue_noted : Work → State → ℕ → ℕ
issue_noted work s m = issue_after (finish_in s) (work.floor m) (work.awaits m)

-- the messages that open, each once, are due at their issues, beside what was due
pub record AreOpened (issue : ℕ → ℕ) (Opens : ℕ → Type 0) (old new : List (ℕ × ℕ)) : Type 0 where
  pub opened : List ℕ
  pub each : AreEach Opens opened
  pub due : IsPermutation (map (λ m. (issue m, m)) opened ++ old) new
