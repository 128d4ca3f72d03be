-- What the code notes of a run, as a state of the machine.
use Rattle.std.specs.Prelude.{◌≡◌, ◌≢◌, ℕ, ◌-◌, ◌<◌, ◌≤◌, List, length, map, slice_index}
use Rattle.waff_plan.specs.Work.{IsAmongFirst}
use Rattle.waff_plan.specs.declared.due.TheConstants.{NEVER}
use Rattle.waff_line.specs.Machine.{State, Turn, HasBegun, IsFree, IsRunning, finish_in, start_in, turn_of}
use Rattle.waff_line.specs.declared.turn.Turn.{Turn as NotedTurn}

-- the turn of a message, as the machine knows it
abbrev pub shown : NotedTurn → Turn
shown turn = record { worker = turn.worker; start = turn.start; ended = turn.ended; finish = turn.finish }

abbrev pub state_of : ℕ → List NotedTurn → State
state_of clock turns = record { clock = clock; turns = map shown turns }

-- message n runs on worker x
abbrev pub RunsOn : State → ℕ → ℕ → Type 0
RunsOn s n x = IsRunning s n × ((turn_of s n).worker ≡ x)

-- of each worker the message that it runs is noted and no other, starts are so early that there are later times, and
-- finishes are no later than the time
pub record AreNoted (s : State) (runs : List ℕ) : Type 0 where
  pub own : (n : ℕ) → IsRunning s n → slice_index runs ((turn_of s n).worker - 1) ≡ n
  pub busy : (x : ℕ) → 1 ≤ x → slice_index runs (x - 1) ≢ 0 → RunsOn s (slice_index runs (x - 1)) x
  pub early : (n : ℕ) → HasBegun s n → start_in s n < NEVER
  pub past : (n : ℕ) → finish_in s n ≤ s.clock

-- of this many workers worker x is free, and message n has not begun
pub record CanBegin (s : State) (workers x n : ℕ) : Type 0 where
  pub worker : IsAmongFirst workers x
  pub free : IsFree s x
  pub number : IsAmongFirst (length s.turns) n
  pub waits : ¬ HasBegun s n
  pub early : s.clock < NEVER
