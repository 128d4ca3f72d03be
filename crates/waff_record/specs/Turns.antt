-- The turns of the messages of a run.
use Rattle.std.specs.Prelude.{ℕ, ◌-◌, false, List, Option, Some, slice_index_or}
use Rattle.waff_line.specs.declared.turn.Turn.{Turn}

-- of no message
abbrev pub no_turn : Turn
no_turn = record { start = 0; finish = 0; worker = 0; after = 0; late = 0; ended = false }

-- the turn of message n, from 1
abbrev pub turn_at : List Turn → ℕ → Turn
turn_at turns n = slice_index_or turns (n - 1) no_turn

-- the worker of message n
abbrev pub worker_of : List Turn → ℕ → Option ℕ
worker_of turns n = Some (turn_at turns n).worker
