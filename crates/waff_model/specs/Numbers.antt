-- The numbers of messages, from 1, and lists of numbers.
use Rattle.std.specs.Prelude.{◌≢◌, ℕ, ◌≤◌, List, AllPairs}

-- n is one of the first so many messages
pub record IsAmongFirst (messages n : ℕ) : Type 0 where
  pub from : 1 ≤ n
  pub to : n ≤ messages

-- no number stands twice
abbrev pub StandOnce : List ℕ → Type 0
StandOnce numbers = AllPairs (λ a b. a ≢ b) numbers
