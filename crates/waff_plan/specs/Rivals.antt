-- The plans beside which the length of a plan is told.
use Rattle.std.specs.Prelude.{ℕ, Bool, true, false, Option, Some, None}
use Rattle.waff_model.specs.Versions.{has_clients}
use Rattle.waff_assign.specs.Instance.{Instance, before_in}
use Rattle.waff_assign.specs.Order.{Relation}
use Rattle.waff_plan.specs.Instances.{work_of_instance}
use Rattle.waff_plan.specs.LowerBound.{ObeysInSomeOrder}
use Rattle.waff_plan.specs.Obeys.{Obeys}
use Rattle.waff_plan.specs.Work.{Work}
use Rattle.waff_plan.specs.Workers.{IsWorkerPlan}

-- an obeying plan, and where there are k workers a worker plan for k
abbrev pub ObeysFor : Option ℕ → Relation → Work → (ℕ → ℕ) → Type 0
ObeysFor None before work start = Obeys before work start
ObeysFor (Some k) before work start = IsWorkerPlan before work k start

-- the plans for so many workers, or with no limit on them, beside which a plan is told: those that
-- obey in whatever order where messages have clients, else those that obey the order of the trace
abbrev pub IsRivalWhere : Bool → Option ℕ → Instance → (ℕ → ℕ) → Type 0
IsRivalWhere false limit instance other =
    ObeysFor limit (before_in instance) (work_of_instance instance) other
IsRivalWhere true limit instance other =
    ObeysInSomeOrder instance.tree instance.assigned (work_of_instance instance) limit other

abbrev pub IsRival : Option ℕ → Instance → (ℕ → ℕ) → Type 0
IsRival limit instance other =
    IsRivalWhere (has_clients instance.trace.version) limit instance other
