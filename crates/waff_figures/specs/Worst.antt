-- The messages that take longest in a plan.
use Rattle.std.specs.Prelude.{◌≡◌, ℕ, ◌<◌, ◌⊎◌, List, ◌∷◌, All, Contains, length, min}
use Rattle.std.specs.List.{AllPairs}
use Rattle.waff_model.specs.Unique.{AtMostOne}
use Rattle.waff_plan.specs.Work.{Work, IsAmongFirst, greatest}
use Rattle.waff_figures.specs.Figures.{latencies_of, latency_of}

-- the one message is told of before the other: it takes longer, or as long and its number is lower
abbrev pub IsWorse : (ℕ → ℕ) → ℕ → ℕ → Type 0
IsWorse latency one other =
    (latency other < latency one) ⊎ ((latency one ≡ latency other) × (one < other))

-- the worst of so many messages, in order: as many as asked for, all where there are fewer, and each
-- other message comes after them
pub record AreWorst (most count : ℕ) (latency : ℕ → ℕ) (worst : List ℕ) : Type 0 where
  pub among : All (IsAmongFirst count) worst
  pub order : AllPairs (IsWorse latency) worst
  pub many : length worst ≡ min most count
  pub others : (m : ℕ) → IsAmongFirst count m
      → Contains worst m ⊎ All (λ one. IsWorse latency one m) worst

-- they are one list
abbrev pub WorstIsOne : Type 0
WorstIsOne = (most count : ℕ) (latency : ℕ → ℕ) → AtMostOne (AreWorst most count latency)

-- the first of them takes longest of all messages of a plan
abbrev pub FirstIsGreatest : Work → (ℕ → ℕ) → Type 0
FirstIsGreatest work start =
    (most first : ℕ) (rest : List ℕ)
    → AreWorst most work.count (latency_of work start) (first ∷ rest)
    → latency_of work start first ≡ greatest (latencies_of work start)
