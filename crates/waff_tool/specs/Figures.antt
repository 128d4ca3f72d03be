-- What the sweep over numbers of workers prints for the bytes of its files.
use Rattle.std.specs.Prelude.{◌≡◌, ℕ, List, None}
use Rattle.waff_assign.specs.Instance.{Instance}
use Rattle.waff_plan.specs.Obeys.{IsLeast}
use Rattle.waff_plan.specs.Instances.{served_first, work_of_instance}
use Rattle.waff_plan.specs.Timing.{start_of}
use Rattle.waff_plan.specs.Work.{length_of}
use Rattle.waff_list.specs.declared.rule.Rule.{Rule}
use Rattle.waff_plan_text.specs.Lines.{text_of}
use Rattle.waff_figures.specs.Figures.{AreFigures}
use Rattle.waff_figures.specs.Least.{IsLowerBound, least_in}
use Rattle.waff_figures.specs.Sweep.{AreListed, sweep_lines}
use Rattle.waff_figures.specs.declared.figures.Figures.{Figures}
use Rattle.waff_inputs.specs.Inputs.{IsToldOf}

-- the text of a sweep: the figures of the plan by this rule for each of these numbers of workers, and
-- those of the least plan; no plan that obeys, for as many workers, is shorter than the `least` of a line
pub record TellsSweep (rule : Rule) (workers : List ℕ) (instance : Instance) (text : List ℕ)
    : Type 0 where
  pub starts : List ℕ
  pub listed : List Figures
  pub unlimited : Figures
  pub least : IsLeast (served_first instance (start_of starts)) (work_of_instance instance)
      (start_of starts)
  pub are_listed : AreListed rule instance
      (length_of (work_of_instance instance) (start_of starts)) workers listed
  pub are_unlimited : AreFigures None (work_of_instance instance)
      (least_in None instance (length_of (work_of_instance instance) (start_of starts)))
      (start_of starts) unlimited
  pub bound : IsLowerBound None instance unlimited.least
  pub lines : text ≡ text_of (sweep_lines listed unlimited)

-- that of a hierarchy and a trace
abbrev pub IsSweepText : Rule → List ℕ → List ℕ → List ℕ → List ℕ → Type 0
IsSweepText rule hierarchy_file trace_file workers text =
    IsToldOf (TellsSweep rule workers) hierarchy_file trace_file text
