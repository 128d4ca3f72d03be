-- The lines of a sweep: how long the trace takes, by the number of workers.
use Rattle.std.specs.Prelude.{◌≡◌, ℕ, ◌*◌, false, List, [], ◌∷◌, ◌++◌, Option, Some, None, All, map}
use Rattle.std.specs.Prelude.{codes, decimal}
use Rattle.waff_model.specs.Versions.{has_clients}
use Rattle.waff_assign.specs.Instance.{Instance}
use Rattle.waff_assign.specs.declared.case.Case.{Case}
use Rattle.waff_plan.specs.Instances.{work_of_instance}
use Rattle.waff_plan.specs.Timing.{start_of}
use Rattle.waff_order.specs.Needs.{AreNeeds}
use Rattle.waff_list.specs.Served.{IsPlanServed}
use Rattle.waff_list.specs.declared.rule.Rule.{Rule}
use Rattle.waff_plan_text.specs.Spelling.{worker_field}
use Rattle.waff_figures.specs.Figures.{AreFigures}
use Rattle.waff_figures.specs.Least.{IsLowerBound, least_in, over_field}
use Rattle.waff_plan_text.specs.Ratio.{ratio_field}
use Rattle.waff_figures.specs.declared.figures.Figures.{Figures}

-- the numbers of workers that a sweep tells of where none are asked for
abbrev pub sweep_workers : List ℕ
sweep_workers =
    1 ∷ 2 ∷ 3 ∷ 4 ∷ 6 ∷ 8 ∷ 12 ∷ 16 ∷ 24 ∷ 32 ∷ 48 ∷ 64 ∷ []

-- what tells how good a plan is: the names, and the fields
abbrev pub quality_names : List (List ℕ)
quality_names =
    codes "least" ∷ codes "over" ∷ codes "waits"
    ∷ codes "mean" ∷ codes "p50" ∷ codes "p99" ∷ codes "latency" ∷ []

abbrev pub quality_fields : Figures → List (List ℕ)
quality_fields figures =
    decimal figures.least
    ∷ over_field figures
    ∷ decimal figures.waits
    ∷ ratio_field figures.latencies figures.messages
    ∷ decimal figures.p50
    ∷ decimal figures.p99
    ∷ decimal figures.latency
    ∷ []

abbrev pub sweep_header : List (List ℕ)
sweep_header = codes "workers" ∷ codes "length" ∷ codes "speedup" ∷ codes "busy" ∷ quality_names

-- how much of their time the workers are busy: the total over k times the length
abbrev pub busy_field : Option ℕ → ℕ → ℕ → List ℕ
busy_field None total length = codes "-"
busy_field (Some k) total length = ratio_field total (k * length)

-- the line of a plan
abbrev pub sweep_row : Figures → List (List ℕ)
sweep_row figures =
    worker_field figures.workers
    ∷ decimal figures.length
    ∷ ratio_field figures.total figures.length
    ∷ busy_field figures.workers figures.total figures.length
    ∷ quality_fields figures

-- the lines of the list plans, and of the least plan
abbrev pub sweep_lines : List Figures → Figures → List (List (List ℕ))
sweep_lines listed unlimited = sweep_header ∷ map sweep_row listed ++ sweep_row unlimited ∷ []

-- the needs of the messages of a case without clients
pub record AreNeedsOf (case : Case) (needs : List (List ℕ)) : Type 0 where
  pub are : AreNeeds case.tree.now case.assigned.now needs
  pub no_clients : has_clients case.trace.now.version ≡ false

-- a plan by this rule for k workers, in the order in which it is to serve messages
abbrev pub IsPlanOf : Rule → Instance → ℕ → (ℕ → ℕ) → Type 0
IsPlanOf rule instance k start =
    IsPlanServed instance.trace.version rule instance.tree instance.assigned
    (work_of_instance instance) k start

-- the figures of the plan by this rule for k workers, where the unlimited plan is this long; no plan for
-- k workers is shorter than `least`
pub record IsListed (rule : Rule) (instance : Instance) (shortest : ℕ)
    (figures : Figures) : Type 0 where
  pub k : ℕ
  pub starts : List ℕ
  pub list : IsPlanOf rule instance k (start_of starts)
  pub figures_are : AreFigures (Some k) (work_of_instance instance)
      (least_in (Some k) instance shortest) (start_of starts) figures
  pub least : IsLowerBound (Some k) instance figures.least

-- the figures of the plans by this rule for these numbers of workers, for each in turn
pub record AreListed (rule : Rule) (instance : Instance) (shortest : ℕ)
    (workers : List ℕ) (listed : List Figures) : Type 0 where
  pub in_turn : map (λ figures. figures.workers) listed ≡ map Some workers
  pub each : All (IsListed rule instance shortest) listed
