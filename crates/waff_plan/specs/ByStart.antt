-- Messages one after another, by their starts or by another key.
use Rattle.std.specs.Prelude.{◌≡◌, ◌≢◌, ℕ, ◌<◌, ◌≤◌, List, length, map, All, Contains}
use Rattle.std.specs.List.{range_with_len}
use Rattle.std.specs.Prelude.{Option, Some, None, slice_index_or}
use Rattle.waff_plan.specs.Work.{Work, IsAmongFirst, IsNumber}
use Rattle.waff_plan.specs.declared.sequence.Started.{Started}

-- message n with its start
abbrev pub started_of : (ℕ → ℕ) → ℕ → Started
started_of start n = record { start = start n; number = n }

-- the messages of a list, or where there is none all of them by number
abbrev pub walk_of : ℕ → Option (List Started) → List Started
walk_of count (Some started) = started
walk_of count None = map (started_of (λ m. m)) (range_with_len 1 count)

-- the message at a place, from 0
abbrev pub started_at : List Started → ℕ → Started
started_at started place = slice_index_or started place (record { start = 0; number = 0 })

-- a message with its start
pub record IsStart (work : Work) (start : ℕ → ℕ) (started : Started) : Type 0 where
  pub number : IsNumber work started.number
  pub start_is : start started.number ≡ started.start

-- all messages, each once, with their starts, which do not fall
pub record AreByStart (work : Work) (start : ℕ → ℕ) (started : List Started) : Type 0 where
  pub long : length started ≡ work.count
  pub each : (n : ℕ) → IsNumber work n → Contains started (started_of start n)
  pub only : All (IsStart work start) started
  pub once : (p q : ℕ) → p < q → q < length started
      → (started_at started p).number ≢ (started_at started q).number
  pub rising : (p q : ℕ) → p ≤ q → q < length started
      → (started_at started p).start ≤ (started_at started q).start

-- messages of so many, as many as there are
pub record AreMessages (count : ℕ) (sequence : List Started) : Type 0 where
  pub long : length sequence ≡ count
  pub number : (p : ℕ) → p < length sequence → IsAmongFirst count (started_at sequence p).number
