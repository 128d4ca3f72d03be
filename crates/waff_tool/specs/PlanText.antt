-- What `plan` prints for the bytes of its files.
use Rattle.std.specs.Prelude.{◌≡◌, ℕ, List, Option, Some, None}
use Rattle.waff_assign.specs.Instance.{Instance}
use Rattle.waff_plan.specs.Instances.{work_of_instance}
use Rattle.waff_plan.specs.Timing.{start_of}
use Rattle.waff_list.specs.Seating.{worker_of}
use Rattle.waff_list.specs.Unique.{AreSeated}
use Rattle.waff_list.specs.declared.rule.Rule.{Rule}
use Rattle.waff_plan_text.specs.Lines.{text_of}
use Rattle.waff_plan_text.specs.Spelling.{unlimited_lines, worker_lines}
use Rattle.waff_inputs.specs.Inputs.{IsToldOf}
use Rattle.waff_tool.specs.Certificates.{IsBounded, IsCertified}

-- the text of the least plan of an instance, with the chain that shows that no plan that obeys its
-- order is shorter
pub record TellsLeastPlan (instance : Instance) (text : List ℕ) : Type 0 where
  pub starts : List ℕ
  pub chain : List ℕ
  pub certified : IsCertified instance (start_of starts) chain
  pub lines : text ≡ text_of (unlimited_lines instance.trace.version
      instance.tree instance.assigned (work_of_instance instance) (start_of starts) chain)

-- the text of the plan by this rule for k workers, with the chain that bounds its length
pub record TellsWorkerPlan (rule : Rule) (k : ℕ) (instance : Instance) (text : List ℕ) : Type 0 where
  pub starts : List ℕ
  pub workers : List ℕ
  pub chain : List ℕ
  pub bounded : IsBounded rule instance k (start_of starts) chain
  pub seated : AreSeated (work_of_instance instance) (start_of starts) (worker_of workers)
  pub lines : text ≡ text_of (worker_lines instance.trace.version
      instance.tree instance.assigned (work_of_instance instance) k (start_of starts) workers chain)

-- the text of the plan by this rule for this number of workers, or of the least plan, whatever the
-- rule, where there is no number
abbrev pub TellsPlan : Rule → Option ℕ → Instance → List ℕ → Type 0
TellsPlan rule None instance text = TellsLeastPlan instance text
TellsPlan rule (Some k) instance text = TellsWorkerPlan rule k instance text

-- the text of such a plan of a hierarchy and a trace
abbrev pub IsPlanText : List ℕ → List ℕ → List ℕ → Type 0
IsPlanText hierarchy_file trace_file text = IsToldOf TellsLeastPlan hierarchy_file trace_file text

abbrev pub IsWorkerPlanText : Rule → List ℕ → List ℕ → ℕ → List ℕ → Type 0
IsWorkerPlanText rule hierarchy_file trace_file k text =
    IsToldOf (TellsWorkerPlan rule k) hierarchy_file trace_file text
