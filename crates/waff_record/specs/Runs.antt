-- What a run gives out: the trace with the costs that are told, and a plan of it.
use Rattle.std.specs.Prelude.{◌≡◌, ℕ, ◌*◌, ◌≤◌, List, Option, Some, Ok, length, map}
use Rattle.std.specs.List.{range_with_len}
use Rattle.waff_model.specs.Messages.{Arrivals}
use Rattle.waff_model.specs.Numbers.{IsAmongFirst}
use Rattle.waff_model.specs.declared.message.Message.{Message}
use Rattle.waff_assign.specs.Instance.{Instance}
use Rattle.waff_plan.specs.Apart.{AreApart}
use Rattle.waff_plan.specs.Obeys.{KeepsOrder, StartsIssued}
use Rattle.waff_plan.specs.Timetable.{Timetable, message_of, work_of_messages}
use Rattle.waff_plan.specs.Timing.{timing_of}
use Rattle.waff_plan.specs.Work.{IsNumber, finish_of, length_of}
use Rattle.waff_plan.specs.Workers.{running}
use Rattle.waff_plan.specs.declared.timing.Timing.{Timing}
use Rattle.waff_plan_text.specs.Given.{Given}
use Rattle.waff_plan_text.specs.PlanTexts.{plan_of}
use Rattle.waff_check.specs.Promises as promises
use Rattle.waff_check.specs.Promises.{AreOneAtATime, Promises}
use Rattle.waff_check.specs.Verdicts.{Claim, IsVerdict, claim_of, pairs_of_claim, start_in}
use Rattle.waff_check.specs.Verdicts.{told_finish, work_of_claim, worker_in, workers_in}
use Rattle.waff_check.specs.declared.verdict.Verdict.{Verdict}
use Rattle.waff_line.specs.Turns.{course_by}
use Rattle.waff_line.specs.declared.turn.Turn.{Turn}
use Rattle.waff_inputs.specs.Inputs.{Accepts}
use Rattle.waff_record.specs.Drift.{drift_of, last_finish}
use Rattle.waff_record.specs.Laws.{run_order}
use Rattle.waff_record.specs.Rounded.{IsRounded}
use Rattle.waff_record.specs.Turns.{worker_of}

-- a message is the same as another but for its cost
pub record IsSameButCost (message other : Message) : Type 0 where
  pub name : other.name ≡ message.name
  pub release : other.release ≡ message.release
  pub client : other.client ≡ message.client
  pub think : other.think ≡ message.think
  pub after : other.after ≡ message.after
  pub ops : other.ops ≡ message.ops

-- a trace has the messages of another with other costs
pub record IsMeasured (trace measured : Arrivals) : Type 0 where
  pub version : measured.version ≡ trace.version
  pub count : length measured.messages ≡ length trace.messages
  pub each : (n : ℕ) → IsAmongFirst (length trace.messages) n
      → IsSameButCost (message_of trace.messages n) (message_of measured.messages n)

-- and these are the costs of a plan
pub record IsToldTrace (trace : Arrivals) (plan : Timetable) (other : Arrivals) : Type 0 where
  pub measured : IsMeasured trace other
  pub costs : (n : ℕ) → IsAmongFirst (length trace.messages) n
      → (message_of other.messages n).cost ≡ (timing_of plan.timings n).cost

-- a message with another cost
abbrev pub message_told : Message → ℕ → Message
message_told message cost = record message { cost = cost }

-- messages with the costs of timings of theirs
abbrev pub messages_told : List Message → List Timing → List Message
messages_told messages timings =
    map (λ n. message_told (message_of messages n) (timing_of timings n).cost)
    (range_with_len 1 (length messages))

-- the trace with the costs of a plan of its messages
abbrev pub trace_told : Arrivals → Timetable → Arrivals
trace_told trace plan = record trace { messages = messages_told trace.messages plan.timings }

-- a plan that is given for the messages of a trace is one for k workers in which the check finds no fault; and
-- what holds of it:
-- - each message runs once: it has a row of its own, whose finish is its start and its cost;
-- - none starts before it is issued;
-- - at each tick at most k messages run, each on a worker of its own, and no two of them exclude each other
pub record IsKept (claim : Claim) (k : ℕ) : Type 0 where
  pub verdict : Verdict
  pub workers : workers_in claim ≡ Some k
  pub is_verdict : IsVerdict claim verdict
  pub no_fault : promises.Accepts verdict
  pub promises : Promises claim verdict
  pub once : length claim.plan.rows ≡ length claim.instance.trace.messages
  pub finishes : (n : ℕ) → IsNumber (work_of_claim claim) n
      → told_finish claim.plan n ≡ finish_of (work_of_claim claim) (start_in claim) n
  pub issued : StartsIssued (work_of_claim claim) (start_in claim)
  pub within : (t : ℕ) → running (work_of_claim claim) (start_in claim) t ≤ k
  pub seated : AreOneAtATime (work_of_claim claim) (start_in claim) (worker_in claim.plan) k
  pub apart : AreApart (pairs_of_claim claim) (work_of_claim claim) (start_in claim)

-- how long a plan that is given is
abbrev pub length_in : Claim → ℕ
length_in claim = length_of (work_of_claim claim) (start_in claim)

-- a plan that is given is what is told of the turns of a run of an instance by k workers, in ticks of so many nanoseconds:
-- - its starts and costs are the rounding of the turns, of each message its own;
-- - each message is on the worker of its turn;
-- - of messages that exclude each other the one that the run served first has finished when the other starts: the one
--   issued first by the clock of the run, before the third version the one that comes first in the trace
pub record IsPlanOf (ran : Instance) (k tick : ℕ) (turns : List Turn) (claim : Claim) : Type 0 where
  pub count : length turns ≡ length claim.instance.trace.messages
  pub rounded : IsRounded (course_by ran k tick) (work_of_messages ran.trace.messages) tick turns
      (work_of_claim claim) (start_in claim)
  pub workers : (n : ℕ) → IsNumber (work_of_claim claim) n
      → worker_in claim.plan n ≡ worker_of turns n
  pub order : KeepsOrder (run_order (course_by ran k tick) turns)
      (work_of_claim claim) (start_in claim)

-- a text is that of such a plan, for the messages of an instance; and by how many per cent it is longer than what was
-- measured, where that is more than one
pub record IsPlanFor (ran instance : Instance) (k tick : ℕ) (turns : List Turn) (text : List ℕ)
    (drift : Option ℕ) : Type 0 where
  pub given : Given
  pub is_plan : plan_of instance.trace.version (length instance.trace.messages) text ≡ Ok given
  pub kept : IsKept (claim_of instance given) k
  pub told : IsPlanOf ran k tick turns (claim_of instance given)
  pub drifts : drift ≡ drift_of (length_in (claim_of instance given) * tick) (last_finish turns)

-- what is told of turns of the messages of an instance, on k workers, in ticks of so many nanoseconds: the text of a trace
-- with the costs that are told, that of the plan that is told of these turns, and its drift
pub record AreRunTexts (hierarchy_file : List ℕ) (ran : Instance) (k tick : ℕ) (turns : List Turn)
    (measured_file text : List ℕ) (drift : Option ℕ) : Type 0 where
  pub instance : Instance
  pub accepts : Accepts hierarchy_file measured_file instance
  pub measured : IsMeasured ran.trace instance.trace
  pub plan : IsPlanFor ran instance k tick turns text drift
