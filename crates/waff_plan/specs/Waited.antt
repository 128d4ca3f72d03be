-- What the messages of a plan waited for, but for what they follow: of those that are before a message the
-- latest.
use Rattle.std.specs.Prelude.{ℕ, ◌-◌, ◌<◌, ◌≤◌, List, Option, None, MatchOption, slice_index_or}
use Rattle.waff_assign.specs.Order.{Relation}
use Rattle.waff_plan.specs.Chain.{IsLatest}
use Rattle.waff_plan.specs.Work.{Work, finish_of, issue_of}

-- the message that m waited for: the latest before it, where that finishes after the issue of m
abbrev pub IsWaitedFor : Relation → Work → (ℕ → ℕ) → ℕ → Option ℕ → Type 0
IsWaitedFor before work start m waited_for =
    MatchOption waited_for ((i : ℕ) → before i m → finish_of work start i ≤ issue_of work start m)
    (λ i. IsLatest (λ j. before j m) (finish_of work start) i
    × (issue_of work start m < finish_of work start i))

-- the messages that the first n waited for
abbrev pub AreWaitedFor : Relation → Work → (ℕ → ℕ) → ℕ → List (Option ℕ) → Type 0
AreWaitedFor before work start n waited =
    (m : ℕ) → 1 ≤ m → m ≤ n
    → IsWaitedFor before work start m (slice_index_or waited (m - 1) None)
