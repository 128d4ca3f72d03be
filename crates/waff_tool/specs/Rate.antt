-- What `rate` tells of a plan that is handed in.
use Rattle.std.specs.Prelude.{◌≡◌, ℕ, List, Option, ◌∷◌, Contains, codes}
use Rattle.waff_assign.specs.Instance.{Instance}
use Rattle.waff_plan.specs.Bound.{IsWorkers}
use Rattle.waff_plan.specs.Instances.{served_first, work_of_instance}
use Rattle.waff_plan.specs.Obeys.{IsLeast}
use Rattle.waff_plan.specs.Timing.{start_of}
use Rattle.waff_plan.specs.Work.{length_of}
use Rattle.waff_list.specs.declared.rule.Rule.{Rule}
use Rattle.waff_plan_text.specs.Given.{Given}
use Rattle.waff_plan_text.specs.Lines.{text_of}
use Rattle.waff_check.specs.Verdicts.{starts_of}
use Rattle.waff_check.specs.declared.verdict.Verdict.{Verdict}
use Rattle.waff_figures.specs.Figures.{AreFigures}
use Rattle.waff_figures.specs.Least.{IsLowerBound, least_in}
use Rattle.waff_figures.specs.Rate.{rate_lines}
use Rattle.waff_figures.specs.declared.figures.Figures.{Figures}
use Rattle.waff_tool.specs.CheckText.{IsCheckText, verdict_fields}
use Rattle.waff_tool.specs.Figures.{IsSweepText}
use Rattle.waff_tool.specs.PlanText.{IsPlanText, IsWorkerPlanText}

-- the figures of a plan with these starts, whoever made it, against the least plan; no plan that obeys,
-- for as many workers, is shorter than `least`
pub record AreRated (instance : Instance) (limit : Option ℕ) (start : ℕ → ℕ)
    (figures : Figures) : Type 0 where
  pub starts : List ℕ
  pub least : IsLeast (served_first instance (start_of starts)) (work_of_instance instance)
      (start_of starts)
  pub are_figures : AreFigures limit (work_of_instance instance)
      (least_in limit instance (length_of (work_of_instance instance) (start_of starts)))
      start figures
  pub bound : IsLowerBound limit instance figures.least

-- that of a plan that is given
abbrev pub IsRated : Instance → Given → Figures → Type 0
IsRated instance given figures =
    AreRated instance given.summary.workers (start_of (starts_of given)) figures

-- the lines of a verdict and of the figures of a plan
abbrev pub rated_lines : Verdict → Figures → List (List (List ℕ))
rated_lines v figures = (codes "verdict" ∷ verdict_fields v) ∷ rate_lines figures

-- the text that tells the verdict of `check` on the plan of a text, and the figures of the starts
-- in its rows for the number of workers that it says
pub record IsRateText (hierarchy_file trace_file plan_file : List ℕ) (v : Verdict)
    (text : List ℕ) : Type 0 where
  pub checked : IsCheckText hierarchy_file trace_file plan_file v
  pub figures : Figures
  pub rated : IsRated checked.instance checked.given figures
  pub lines : text ≡ text_of (rated_lines v figures)

-- two texts that tell how good the plan of a text is are equal
abbrev pub RateTextIsOne : List ℕ → List ℕ → List ℕ → Type 0
RateTextIsOne hierarchy_file trace_file plan_file =
    (one other : Verdict) (text another : List ℕ)
    → IsRateText hierarchy_file trace_file plan_file one text
    → IsRateText hierarchy_file trace_file plan_file other another → text ≡ another

-- the verdict is that of `check`
abbrev pub RatedIsChecked : List ℕ → List ℕ → List ℕ → Type 0
RatedIsChecked hierarchy_file trace_file plan_file =
    (one other : Verdict) (text : List ℕ)
    → IsRateText hierarchy_file trace_file plan_file one text
    → IsCheckText hierarchy_file trace_file plan_file other → one ≡ other

-- of the text of a plan without workers the figures are those of the last line of a sweep, whatever
-- its rule
abbrev pub OwnPlanIsSwept : Rule → List ℕ → List ℕ → Type 0
OwnPlanIsSwept rule hierarchy_file trace_file =
    (plan_file workers text sweep : List ℕ) (v : Verdict)
    → IsPlanText hierarchy_file trace_file plan_file
    → (rate : IsRateText hierarchy_file trace_file plan_file v text)
    → (swept : IsSweepText rule hierarchy_file trace_file workers sweep)
    → rate.figures ≡ swept.told.unlimited

-- of the text of a plan for k workers they are those of a line of a sweep by the same rule
abbrev pub OwnWorkerPlanIsSwept : Rule → List ℕ → List ℕ → Type 0
OwnWorkerPlanIsSwept rule hierarchy_file trace_file =
    (k : ℕ) (plan_file workers text sweep : List ℕ) (v : Verdict) → IsWorkers k
    → Contains workers k → IsWorkerPlanText rule hierarchy_file trace_file k plan_file
    → (rate : IsRateText hierarchy_file trace_file plan_file v text)
    → (swept : IsSweepText rule hierarchy_file trace_file workers sweep)
    → Contains swept.told.listed rate.figures
