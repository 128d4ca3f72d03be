-- What holds of plans in which no worker idles, as of all list plans: the bound of Graham (1969).
use Rattle.std.specs.Prelude.{ℕ, ◌≤◌, List}
use Rattle.waff_assign.specs.Order.{Relation}
use Rattle.waff_plan.specs.Bound.{IsWithinBound}
use Rattle.waff_plan.specs.Chain.{IsPrinted}
use Rattle.waff_plan.specs.Work.{Work}
use Rattle.waff_plan.specs.Workers.{IsWorkerPlan}
use Rattle.waff_list.specs.ListRule.{KeepsBusy}

-- a worker plan for k in which no worker idles while a message is ready, as in every list plan,
-- whichever messages are taken first
pub record IsBusyPlan (before : Relation) (work : Work) (k : ℕ) (start : ℕ → ℕ) : Type 0 where
  pub within : IsWorkerPlan before work k start
  pub busy : KeepsBusy before work k start

-- every such plan is within the bound of its printed chain
abbrev pub BusyPlansAreWithinBound : Relation → Work → Type 0
BusyPlansAreWithinBound before work =
    (k : ℕ) (start : ℕ → ℕ) (chain : List ℕ)
    → 1 ≤ k → IsBusyPlan before work k start → IsPrinted before work start chain
    → IsWithinBound work k start chain
