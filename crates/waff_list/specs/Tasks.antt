-- What is told of a task's messages.
use Rattle.std.specs.Prelude.{ℕ, ◌-◌, Option, Some, None, slice_index}
use Rattle.std.specs.Global.{Vec}

-- the priority of message m: its tail where tails are listed, else 0
abbrev pub tail_in : Option (Vec ℕ) → ℕ → ℕ
tail_in None m = 0
tail_in (Some tails) m = slice_index tails.items (m - 1)
