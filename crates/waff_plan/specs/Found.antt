-- A message that may be none, kept as one: all are later than the one that stands for none.
use Rattle.std.specs.Prelude.{◌≡◌, ℕ, ◌==◌, Option, Some, None, if◌then◌else◌}
use Rattle.waff_plan.specs.declared.latest.Latest.{Latest}

-- the number of no message
abbrev pub no_number : ℕ
no_number = 4294967295

-- the message, where it is one
abbrev pub some_of : Latest → Option Latest
some_of message = if message.number == no_number then None else Some message

-- the message that is kept
abbrev pub kept_for : Option Latest → Latest
kept_for None = record { finish = 0; number = no_number }
kept_for (Some message) = message

-- the message that is kept is one, or the one that stands for none
abbrev pub IsKept : Latest → Type 0
IsKept message = kept_for (some_of message) ≡ message
