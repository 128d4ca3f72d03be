-- The links of a plan: for each message the one that its start waited for.
use Rattle.std.specs.Prelude.{ℕ, ◌+◌, ◌-◌, ◌<◌, ◌≤◌, List, [], ◌∷◌, Option, Some, None}
use Rattle.std.specs.Prelude.{MatchOption, nat_lt, slice_index_or, if◌then◌else◌}
use Rattle.waff_assign.specs.Order.{Relation}
use Rattle.waff_plan.specs.Work.{Await, Work, holds_until}
use Rattle.waff_plan.specs.Obeys.{IsLinked}
use Rattle.waff_plan.specs.Chain.{IsLatest}
use Rattle.waff_plan.specs.Latest.{later_of}
use Rattle.waff_plan.specs.declared.latest.Latest.{Latest}

-- the message that m waited for: of those that hold it back the one that does so longest, where that
-- is longer than the release of m
abbrev pub IsLink : Relation → Work → (ℕ → ℕ) → ℕ → Option ℕ → Type 0
IsLink before work start m link =
    MatchOption link
    ((i : ℕ) → IsLinked before work i m → holds_until work start m i ≤ work.floor m)
    (λ i. IsLatest (λ j. IsLinked before work j m) (holds_until work start m) i
    × (work.floor m < holds_until work start m i))

-- the links of the first n messages
abbrev pub AreLinks : Relation → Work → (ℕ → ℕ) → ℕ → List (Option ℕ) → Type 0
AreLinks before work start n links =
    (m : ℕ) → 1 ≤ m → m ≤ n → IsLink before work start m (slice_index_or links (m - 1) None)

-- of the latest message before one and those that it awaits the one that holds it back longest, of equal
-- ones the one of the lowest number
abbrev pub held_by : (ℕ → ℕ) → Option Latest → List Await → Option Latest
held_by finish latest [] = latest
held_by finish latest (a ∷ rest) =
    later_of (held_by finish latest rest)
    (Some (record { finish = finish a.message + a.gap; number = a.message }))

-- the latest of some messages, where it finishes after a release
abbrev pub link_of : Option Latest → ℕ → Option ℕ
link_of None release = None
link_of (Some latest) release = if nat_lt release latest.finish then Some latest.number else None
