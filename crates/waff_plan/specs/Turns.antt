-- The messages that may have their turn, each with its key.
use Rattle.std.specs.Prelude.{◌≡◌, ℕ, ◌-◌, Bool, true, false, List, [], map}
use Rattle.std.specs.List.{range_with_len}
use Rattle.waff_waits.specs.Waits.{WhoWaits, waiting_for}
use Rattle.waff_plan.specs.Pending.{Issue}
use Rattle.waff_plan.specs.declared.turns.Turns.{Turns}
use Rattle.waff_plan.specs.declared.turns.Turns.TheVariants.{Numbers, Issues}

-- the messages from one on up to another, which have the same key
abbrev pub numbered : ℕ → ℕ → List Issue
numbered next end = map (λ n. (0, n)) (range_with_len next (end - next))

-- the messages, with their keys
abbrev pub turns_in : Turns → List Issue
turns_in (Numbers next end) = numbered next end
turns_in (Issues due waits) = due

-- whether they are served by their issues
abbrev pub is_by_issue : Turns → Bool
is_by_issue (Numbers next end) = false
is_by_issue (Issues due waits) = true

-- who waits for whom: by number nobody does
abbrev pub HoldsWaits : Turns → WhoWaits → Type 0
HoldsWaits (Numbers next end) w = (i : ℕ) → waiting_for w i ≡ []
HoldsWaits (Issues due waits) w = waits ≡ w
