-- What the planner has placed, and what it keeps while it does.
use Rattle.std.specs.Prelude.{ℕ, List}
use Rattle.waff_waits.specs.Waits.{WhoWaits}

-- the start and the worker of each message, and the messages that are placed, in their order
pub record Placed : Type 0 where
  pub starts : List ℕ
  pub seats : List ℕ
  pub order : List ℕ

-- the messages that run with their finishes, the workers that are idle, who waits for whom, and the
-- messages that are ready
pub record Pending : Type 0 where
  pub finishes : List (ℕ × ℕ)
  pub idle : List ℕ
  pub waits : WhoWaits
  pub ready : List ℕ
