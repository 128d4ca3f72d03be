-- The plans that are printed pass the check, whoever made them.
use Rattle.std.specs.Prelude.{ℕ, ◌⊎◌, Bool, true, false, List}
use Rattle.waff_model.specs.Versions.{has_clients}
use Rattle.waff_model.specs.declared.message.Version.{Version}
use Rattle.waff_plan.specs.Bound.{IsWorkers}
use Rattle.waff_list.specs.declared.rule.Rule.{Rule}
use Rattle.waff_check.specs.declared.verdict.Verdict.TheVariants as verdict
use Rattle.waff_tool.specs.CheckText.{IsCheckText}
use Rattle.waff_tool.specs.PlanText.{IsPlanText, IsWorkerPlanText}

-- a text is found to tell a plan that is shortest, or where messages have clients tight
abbrev pub PassesShortWhere : Bool → List ℕ → List ℕ → List ℕ → Type 0
PassesShortWhere false hierarchy_file trace_file text =
    IsCheckText hierarchy_file trace_file text verdict.Shortest
PassesShortWhere true hierarchy_file trace_file text =
    IsCheckText hierarchy_file trace_file text verdict.Shortest
    ⊎ IsCheckText hierarchy_file trace_file text verdict.Tight

abbrev pub PassesShort : Version → List ℕ → List ℕ → List ℕ → Type 0
PassesShort version = PassesShortWhere (has_clients version)

-- the text of a plan without workers is read, and found shortest, or where messages have clients tight
abbrev pub OwnPlanPasses : List ℕ → List ℕ → List ℕ → Type 0
OwnPlanPasses hierarchy_file trace_file text =
    (told : IsPlanText hierarchy_file trace_file text)
    → PassesShort told.instance.trace.version hierarchy_file trace_file text

-- the text of a plan by a rule for k workers is read, and found so or within the bound
abbrev pub OwnWorkerPlanPasses : Rule → List ℕ → List ℕ → ℕ → List ℕ → Type 0
OwnWorkerPlanPasses rule hierarchy_file trace_file k text =
    IsWorkers k → (told : IsWorkerPlanText rule hierarchy_file trace_file k text)
    → PassesShort told.instance.trace.version hierarchy_file trace_file text
    ⊎ IsCheckText hierarchy_file trace_file text verdict.WithinBound
