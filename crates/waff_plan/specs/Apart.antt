-- Messages that run at a common tick.
use Rattle.std.specs.Prelude.{◌≡◌, ℕ, true}
use Rattle.waff_assign.specs.Order.{Relation}
use Rattle.waff_plan.specs.Work.{Work}
use Rattle.waff_plan.specs.Workers.{runs_at}

-- two messages run at a common tick
abbrev pub RunTogether : Work → (ℕ → ℕ) → ℕ → ℕ → Type 0
RunTogether work start i j =
    (t : ℕ) × (runs_at work start t i ≡ true) × (runs_at work start t j ≡ true)

-- a pair the messages of which run at a common tick, whichever starts first
pub record Collides (before : Relation) (work : Work) (start : ℕ → ℕ) (i j : ℕ) : Type 0 where
  pub ordered : before i j
  pub together : RunTogether work start i j

-- no pair collides
abbrev pub AreApart : Relation → Work → (ℕ → ℕ) → Type 0
AreApart before work start = (i j : ℕ) → Collides before work start i j → ⊥
