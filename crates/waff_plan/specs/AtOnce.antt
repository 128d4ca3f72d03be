-- Plans in which each message starts as soon as it may.
use Rattle.std.specs.Prelude.{ℕ, ◌≤◌}
use Rattle.waff_assign.specs.Order.{Relation}
use Rattle.waff_plan.specs.Work.{Work, IsNumber, finish_of, issue_of}

-- message m starts at the greatest of its issue and the finishes of the messages before it
pub record StartsAtOnce (before : Relation) (work : Work) (start : ℕ → ℕ) (m : ℕ) : Type 0 where
  pub issued : issue_of work start m ≤ start m
  pub finished : (i : ℕ) → before i m → finish_of work start i ≤ start m
  pub greatest : (tick : ℕ) → issue_of work start m ≤ tick
      → ((i : ℕ) → before i m → finish_of work start i ≤ tick) → start m ≤ tick

-- so does each message of a plan
abbrev pub AllStartAtOnce : Relation → Work → (ℕ → ℕ) → Type 0
AllStartAtOnce before work start = (m : ℕ) → IsNumber work m → StartsAtOnce before work start m
