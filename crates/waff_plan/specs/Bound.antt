-- The bound of Graham (1969) on the length of a plan for k workers, here with releases (own), and
-- what follows from it.
use Rattle.std.specs.Prelude.{◌≡◌, ℕ, ◌+◌, ◌-◌, ◌*◌, ◌≤◌, List}
use Rattle.waff_model.specs.declared.limits.TheConstants.{MAX_WORKERS}
use Rattle.waff_assign.specs.Order.{Relation}
use Rattle.waff_plan.specs.Work.{Work, IsAwaited, IsNumber, gap_of, length_of, total_of}
use Rattle.waff_plan.specs.Chain.{IsChain, chain_cost, chain_release}
use Rattle.waff_plan.specs.Workers.{IsWorkerPlan}

-- k is a number of workers
pub record IsWorkers (k : ℕ) : Type 0 where
  pub from : 1 ≤ k
  pub to : k ≤ MAX_WORKERS

-- what k workers can do in as long as the plan takes
abbrev pub left_side : Work → ℕ → (ℕ → ℕ) → ℕ
left_side work k start = k * length_of work start

-- the total, k times the release of a chain, and k - 1 times the cost of that chain
abbrev pub right_side : Work → ℕ → List ℕ → ℕ
right_side work k chain =
    total_of work + k * chain_release work chain + (k - 1) * chain_cost work chain

-- k workers need at most this long for the chain's release, the chain, and the rest of the work
abbrev pub IsWithinBound : Work → ℕ → (ℕ → ℕ) → List ℕ → Type 0
IsWithinBound work k start chain = left_side work k start ≤ right_side work k chain

-- a plan is at most twice as long as any worker plan for k
abbrev pub IsWithinTwice : Relation → Work → ℕ → (ℕ → ℕ) → Type 0
IsWithinTwice before work k start =
    (other : ℕ → ℕ) → IsWorkerPlan before work k other
    → left_side work k start ≤ 2 * k * length_of work other

-- and at most 2 - 1/k times as long where no message has a release, a think time or a gap
abbrev pub IsWithinRatio : Relation → Work → ℕ → (ℕ → ℕ) → Type 0
IsWithinRatio before work k start =
    ((m : ℕ) → IsNumber work m → work.floor m ≡ 0)
    → ((i m : ℕ) → IsAwaited (work.awaits m) i → gap_of work i m ≡ 0)
    → (other : ℕ → ℕ) → IsWorkerPlan before work k other
    → left_side work k start ≤ (2 * k - 1) * length_of work other

-- what is within the bound of some chain is so
abbrev pub BoundIsWithinTwice : Relation → Work → Type 0
BoundIsWithinTwice before work =
    (k : ℕ) (start : ℕ → ℕ) (chain : List ℕ) → IsChain before work chain
    → IsWithinBound work k start chain → IsWithinTwice before work k start

abbrev pub BoundIsWithinRatio : Relation → Work → Type 0
BoundIsWithinRatio before work =
    (k : ℕ) (start : ℕ → ℕ) (chain : List ℕ) → 1 ≤ k → IsChain before work chain
    → IsWithinBound work k start chain → IsWithinRatio before work k start
