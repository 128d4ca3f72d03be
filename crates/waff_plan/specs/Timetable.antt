-- A plan as a table: the timing and the start of each message, in the order of arrival.
use Rattle.std.specs.Prelude.{◌≡◌, ℕ, zero, suc, ◌-◌, ◌≤◌, false, max, List, [], length, map, All}
use Rattle.std.specs.Prelude.{slice_index_or, slice_set}
use Rattle.std.specs.List.{range_with_len}
use Rattle.waff_model.specs.Messages.{no_client}
use Rattle.waff_model.specs.declared.limits.TheConstants.{MAX_MESSAGES}
use Rattle.waff_model.specs.declared.message.Message.{Message}
use Rattle.waff_model.specs.declared.message.Version.{Version}
use Rattle.waff_model.specs.Versions.{has_clients}
use Rattle.waff_model.specs.declared.limits.TheConstants.{MAX_TICK}
use Rattle.waff_plan.specs.Clients.{one_before}
use Rattle.waff_plan.specs.Obeys.{AwaitsEarlier, AwaitsNone}
use Rattle.waff_plan.specs.Work.{Work}
use Rattle.waff_plan.specs.Timing.{IsTiming, client_work_of, start_of, timing_of, work_of}
use Rattle.waff_plan.specs.declared.timing.Timing.{Timing}

-- the version of the plan's trace, and the timings and starts of its messages
pub record Timetable : Type 0 where
  pub version : Version
  pub timings : List Timing
  pub starts : List ℕ

-- the work of a plan's messages
abbrev pub work_in : Timetable → Work
work_in plan = work_of plan.timings

-- the same by clients alone
abbrev pub client_work_in : Timetable → Work
client_work_in plan = client_work_of plan.timings

-- the starts of a plan's messages
abbrev pub starts_in : Timetable → ℕ → ℕ
starts_in plan = start_of plan.starts

-- timings within the limits of a trace of this version: a message awaits earlier ones, and without clients
-- none
pub record AreTimings (version : Version) (timings : List Timing) : Type 0 where
  pub small : All IsTiming timings
  pub earlier : AwaitsEarlier (work_of timings)
  pub alone : has_clients version ≡ false → AwaitsNone (work_of timings)

-- each message has a start, and no start is too late to be printed
pub record IsTimetable (table : Timetable) : Type 0 where
  pub lengths : length table.starts ≡ length table.timings
  pub few : length table.timings ≤ MAX_MESSAGES
  pub timings : AreTimings table.version table.timings
  pub printable : All (λ start. start ≤ MAX_TICK) table.starts

-- the plan in which message n starts at this tick, and the others as they do
abbrev pub with_start : Timetable → ℕ → ℕ → Timetable
with_start plan n start = record {
  version = plan.version;
  timings = plan.timings;
  starts = slice_set plan.starts (n - 1) start;
}

-- the timing with another cost
abbrev pub with_cost : Timing → ℕ → Timing
with_cost timing cost = record {
  cost = cost;
  floor = timing.floor;
  follows = timing.follows;
  think = timing.think;
  after = timing.after;
}

-- the plan in which message n starts at this tick and runs for this long, and the others do as they did
abbrev pub with_turn : Timetable → ℕ → ℕ → ℕ → Timetable
with_turn plan n start cost = record {
  version = plan.version;
  timings = slice_set plan.timings (n - 1) (with_cost (timing_of plan.timings n) cost);
  starts = slice_set plan.starts (n - 1) start;
}

-- no message
abbrev pub no_message : Message
no_message = record { name = []; cost = 0; release = 0; client = no_client; think = 0; after = []; ops = [] }

-- message n, from 1
abbrev pub message_of : List Message → ℕ → Message
message_of messages n = slice_index_or messages (n - 1) no_message

-- the clients of messages
abbrev pub clients_of : List Message → List (List ℕ)
clients_of messages = map (λ message. message.client) messages

-- the tick before which a message that follows the one with this number, 0 for none, may not start
-- whatever the others do: its release, and where it follows none its think time where that is later
abbrev pub floor_of : Message → ℕ → ℕ
floor_of message zero = max message.release message.think
floor_of message (suc n) = message.release

-- its timing
abbrev pub timing_after : Message → ℕ → Timing
timing_after message follows = record {
  cost = message.cost;
  floor = floor_of message follows;
  follows = follows;
  think = message.think;
  after = message.after;
}

-- the timing of message n, which follows the one before it of its client
abbrev pub timing_at : List Message → ℕ → Timing
timing_at messages n = timing_after (message_of messages n) (one_before (clients_of messages) n)

-- the timings of the messages of a trace
abbrev pub timings_of : List Message → List Timing
timings_of messages = map (timing_at messages) (range_with_len 1 (length messages))

-- the work of the messages of a trace
abbrev pub work_of_messages : List Message → Work
work_of_messages messages = work_of (timings_of messages)

-- the same by clients alone
abbrev pub client_work_of_messages : List Message → Work
client_work_of_messages messages = client_work_of (timings_of messages)
