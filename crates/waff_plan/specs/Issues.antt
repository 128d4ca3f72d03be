-- The order in which messages are issued, where a client issues its next message a think time after
-- its last has finished: what is issued first is served first.
use Rattle.std.specs.Prelude.{ℕ, List}
use Rattle.waff_model.specs.Tree.{Node}
use Rattle.waff_assign.specs.Order.{Relation}
use Rattle.waff_plan.specs.Work.{Work, issue_of}
use Rattle.waff_plan.specs.Obeys.{IsLeast}
use Rattle.waff_plan.specs.Order.{ComesBefore, Serves}
use Rattle.waff_assign.specs.Held.{Held}

-- message i is issued before message j: at an earlier tick, or at the same and it has the lower number
abbrev pub IsIssuedBefore : Work → (ℕ → ℕ) → ℕ → ℕ → Type 0
IsIssuedBefore work start = ComesBefore (issue_of work start)

-- a pair in the order of issue: message i is issued before message j, and they exclude each
-- other
abbrev pub IsServedBefore : List Node → List Held → Work → (ℕ → ℕ) → Relation
IsServedBefore tree assigned work start = Serves tree assigned work (issue_of work start)

-- the unlimited plan in the order of issue: the least of the plans that obey the order in which it
-- issues the messages itself
abbrev pub IsLeastByIssue : List Node → List Held → Work → (ℕ → ℕ) → Type 0
IsLeastByIssue tree assigned work start =
    IsLeast (IsServedBefore tree assigned work start) work start
