-- What is left of a run that was stopped: the messages that had ended by then, and the trace cut down to them.
use Rattle.std.specs.Prelude.{◌≡◌, ◌↔◌, ℕ, ◌-◌, ◌*◌, ◌<◌, ◌≤◌, true, List, Contains, Option, length, map, slice_index, slice_index_or}
use Rattle.waff_model.specs.Messages.{Arrivals}
use Rattle.waff_model.specs.declared.limits.TheConstants.{MAX_COST}
use Rattle.waff_model.specs.declared.message.Message.{Message}
use Rattle.waff_assign.specs.Held.{ExcludeEachOther}
use Rattle.waff_assign.specs.Instance.{Instance}
use Rattle.waff_assign.specs.Order.{held_of}
use Rattle.waff_plan.specs.Timetable.{message_of, work_of_messages}
use Rattle.waff_plan.specs.Work.{Await, IsAmongFirst, Work}
use Rattle.waff_line.specs.Turns.{AreReached, AreRunTurns, course_by}
use Rattle.waff_line.specs.declared.turn.Turn.{Turn}
use Rattle.waff_record.specs.Runs.{AreRunTexts}
use Rattle.waff_record.specs.declared.rounding.TheConstants.{MAX_RUN}
use Rattle.waff_record.specs.Turns.{turn_at}

-- message n is left: it had ended, after no more than as many ticks of so many nanoseconds as a trace can tell, and no later
-- than a run may last. So a message for which the run was stopped, since it ran for too many ticks, is not
pub record IsLeft (turns : List Turn) (tick n : ℕ) : Type 0 where
  pub number : IsAmongFirst (length turns) n
  pub ended : (turn_at turns n).ended ≡ true
  pub brief : (turn_at turns n).finish - (turn_at turns n).start ≤ MAX_COST * tick
  pub timely : (turn_at turns n).finish ≤ MAX_RUN * tick

-- these are the numbers of those of the first messages, so many, that are left, in order
pub record AreLeftOf (turns : List Turn) (tick count : ℕ) (kept : List ℕ) : Type 0 where
  pub each : (n : ℕ) → Contains kept n ↔ IsLeft turns tick n × (n ≤ count)
  pub rising : (p q : ℕ) → p < q → q < length kept → slice_index kept p < slice_index kept q

-- of all
abbrev pub AreLeft : List Turn → ℕ → List ℕ → Type 0
AreLeft turns tick kept = AreLeftOf turns tick (length turns) kept

-- the number, among all messages, of message k of those that are kept, from 1
abbrev pub number_at : List ℕ → ℕ → ℕ
number_at kept k = slice_index_or kept (k - 1) 0

-- the turns of those that are kept
abbrev pub turns_kept : List Turn → List ℕ → List Turn
turns_kept turns kept = map (turn_at turns) kept

-- what is awaited, by its number among those that are kept, is this one of all
abbrev pub await_kept : List ℕ → Await → Await
await_kept kept await = record { message = number_at kept await.message; gap = await.gap }

-- a message as it is told among those that are kept: what it awaits has its number among them
pub record IsToldAmong (kept : List ℕ) (message cut : Message) : Type 0 where
  pub name : cut.name ≡ message.name
  pub cost : cut.cost ≡ message.cost
  pub release : cut.release ≡ message.release
  pub client : cut.client ≡ message.client
  pub think : cut.think ≡ message.think
  pub after : map (await_kept kept) cut.after ≡ message.after
  pub ops : cut.ops ≡ message.ops

-- message k of those that are kept is issued as it is among all: it awaits the same messages
pub record IsIssuedAmong (kept : List ℕ) (work cut : Work) (k : ℕ) : Type 0 where
  pub floor : cut.floor k ≡ work.floor (number_at kept k)
  pub awaits : map (await_kept kept) (cut.awaits k) ≡ work.awaits (number_at kept k)

-- a trace is cut down to the messages with these numbers, in their order
pub record IsCutTo (trace : Arrivals) (kept : List ℕ) (cut : Arrivals) : Type 0 where
  pub version : cut.version ≡ trace.version
  pub count : length cut.messages ≡ length kept
  pub each : (k : ℕ) → IsAmongFirst (length kept) k
      → IsToldAmong kept (message_of trace.messages (number_at kept k)) (message_of cut.messages k)
  pub issued : (k : ℕ) → IsAmongFirst (length kept) k
      → IsIssuedAmong kept (work_of_messages trace.messages) (work_of_messages cut.messages) k

-- an instance is: its messages exclude each other as they do among all
pub record IsCutDown (instance : Instance) (kept : List ℕ) (cut : Instance) : Type 0 where
  pub tree : cut.tree ≡ instance.tree
  pub trace : IsCutTo instance.trace kept cut.trace
  pub excludes : (i j : ℕ) → IsAmongFirst (length kept) i → IsAmongFirst (length kept) j
      → ExcludeEachOther cut.tree (held_of cut.assigned i) (held_of cut.assigned j)
      ↔ ExcludeEachOther instance.tree (held_of instance.assigned (number_at kept i))
      (held_of instance.assigned (number_at kept j))

-- texts tell what is left of a run of an instance by k workers, in ticks of so many nanoseconds, which has these turns and was
-- stopped: they tell a run of the messages that are left
pub record TellLeft (hierarchy_file : List ℕ) (ran : Instance) (k tick : ℕ) (turns : List Turn)
    (measured_file text : List ℕ) (drift : Option ℕ) : Type 0 where
  pub kept : List ℕ
  pub left : AreLeft turns tick kept
  pub cut : Instance
  pub is_cut : IsCutDown ran kept cut
  pub run : AreRunTurns (course_by cut k tick) (turns_kept turns kept)
  pub texts : AreRunTexts hierarchy_file cut k tick (turns_kept turns kept) measured_file text drift

-- the turns of the messages that are left of a run are those of a run of them alone
abbrev pub LeftIsRun : Instance → ℕ → ℕ → List Turn → List ℕ → Instance → Type 0
LeftIsRun instance k tick turns kept cut =
    AreReached (course_by instance k tick) turns → AreLeft turns tick kept → IsCutDown instance kept cut
    → AreReached (course_by cut k tick) (turns_kept turns kept)
