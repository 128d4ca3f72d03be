-- What holds of all plans, whoever made them.
use Rattle.std.specs.Prelude.{◌≡◌, ℕ, ◌+◌, ◌*◌, ◌/◌, ◌%◌, ◌≤◌, max, min, List}
use Rattle.waff_assign.specs.Order.{Relation}
use Rattle.waff_plan.specs.Work.{Work, length_of, total_of}
use Rattle.waff_plan.specs.Obeys.{Obeys, IsLeast}
use Rattle.waff_plan.specs.Chain.{IsChain, IsPrinted, chain_cost, chain_release}
use Rattle.waff_plan.specs.Workers.{IsWorkerPlan}

-- no obeying plan is shorter than the release plus the cost of a chain
abbrev pub ChainsAreWithinLength : Relation → Work → Type 0
ChainsAreWithinLength before work =
    (chain : List ℕ) (start : ℕ → ℕ) → IsChain before work chain → Obeys before work start
    → chain_release work chain + chain_cost work chain ≤ length_of work start

-- no obeying plan is shorter than the least one
abbrev pub LeastIsShortest : Relation → Work → Type 0
LeastIsShortest before work =
    (start other : ℕ → ℕ) → IsLeast before work start → Obeys before work other
    → length_of work start ≤ length_of work other

-- a printed chain is a chain
abbrev pub PrintedIsChain : Relation → Work → Type 0
PrintedIsChain before work =
    (start : ℕ → ℕ) (chain : List ℕ) → IsPrinted before work start chain → IsChain before work chain

-- the printed chain of the least plan is as long as that plan: its release plus its cost is the
-- length
abbrev pub PrintedIsAsLong : Relation → Work → Type 0
PrintedIsAsLong before work =
    (start : ℕ → ℕ) (chain : List ℕ) → IsLeast before work start → IsPrinted before work start chain
    → chain_release work chain + chain_cost work chain ≡ length_of work start

-- k workers do at most k ticks of work in each tick
abbrev pub TotalIsWithinWorkers : Relation → Work → Type 0
TotalIsWithinWorkers before work =
    (k : ℕ) (start : ℕ → ℕ) → IsWorkerPlan before work k start
    → total_of work ≤ k * length_of work start

-- the least plan under one order is no longer than the least plan under another
abbrev pub LeastIsNoLonger : Relation → Relation → Work → Type 0
LeastIsNoLonger before other_before work =
    (start other : ℕ → ℕ) → IsLeast before work start → IsLeast other_before work other
    → length_of work start ≤ length_of work other

-- the work shared among k workers: the whole ticks of each, and one more where work is left over
abbrev pub share_of : ℕ → ℕ → ℕ
share_of total k = total / k + min 1 (total % k)

-- no plan for k workers is shorter than the least plan, nor than each worker's share of the work
abbrev pub least_for : ℕ → ℕ → ℕ → ℕ
least_for k total length = max length (share_of total k)

-- no worker plan for k is shorter than the greater of the length of the least plan and the total
-- over k, rounded up
abbrev pub NoneIsShorter : Relation → Work → Type 0
NoneIsShorter before work =
    (k : ℕ) (start other : ℕ → ℕ) → 1 ≤ k → IsLeast before work start
    → IsWorkerPlan before work k other
    → least_for k (total_of work) (length_of work start) ≤ length_of work other
