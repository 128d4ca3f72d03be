-- What `waits --worst` prints for the bytes of its files.
use Rattle.std.specs.Prelude.{◌≡◌, ℕ, List, [], ◌∷◌, ◌++◌, Option, Contains}
use Rattle.waff_model.specs.Layout.{Hierarchy}
use Rattle.waff_model.specs.declared.cell.Cell.{Cell}
use Rattle.waff_assign.specs.Instance.{Instance}
use Rattle.waff_assign.specs.Lowest.{ListsLocks}
use Rattle.waff_plan.specs.Instances.{started_first, work_of_instance}
use Rattle.waff_plan.specs.Timing.{start_of}
use Rattle.waff_plan.specs.Waited.{AreWaitedFor}
use Rattle.waff_list.specs.declared.rule.Rule.{Rule}
use Rattle.waff_plan_text.specs.Lines.{text_of}
use Rattle.waff_figures.specs.Figures.{latency_of}
use Rattle.waff_figures.specs.WaitLocks.{AreBy}
use Rattle.waff_figures.specs.Worst.{AreWorst}
use Rattle.waff_figures.specs.WorstText.{worst_lines}
use Rattle.waff_figures.specs.declared.figures.Figures.{Figures}
use Rattle.waff_inputs.specs.Inputs.{IsToldUnder}
use Rattle.waff_tool.specs.Figures.{IsSweepText}
use Rattle.waff_tool.specs.WaitsText.{IsPlanFor, TellsWaits}
use Rattle.waff_tool.specs.declared.waits.Waiting.{Waiting}
use Rattle.waff_tool.specs.declared.waits.Waiting.TheVariants as waiting

-- the text of the messages that take longest in the plan by this rule for this number of workers or
-- without: a line for each of at most so many, the worst first, with the message that it waited for
-- and the cell of the lock by which it did
pub record TellsWorst (rule : Rule) (workers : Option ℕ) (most : ℕ) (layout : Hierarchy)
    (instance : Instance) (text : List ℕ) : Type 0 where
  pub starts : List ℕ
  pub cells : List Cell
  pub waited : List (Option ℕ)
  pub by : List (Option ℕ)
  pub worst : List ℕ
  pub planned : IsPlanFor rule instance workers (start_of starts)
  pub are_cells : ListsLocks layout instance.trace.messages cells
  pub are_waited : AreWaitedFor (started_first instance (start_of starts))
      (work_of_instance instance) (start_of starts) (work_of_instance instance).count waited
  pub are_by : AreBy instance.tree instance.assigned waited by
  pub are_worst : AreWorst most (work_of_instance instance).count
      (latency_of (work_of_instance instance) (start_of starts)) worst
  pub lines : text ≡ text_of (worst_lines layout.spaces cells instance.tree instance.assigned
      instance.trace.messages (work_of_instance instance) (start_of starts) waited by worst)

-- that of a hierarchy and a trace
abbrev pub IsWorstText : Rule → List ℕ → List ℕ → Option ℕ → ℕ → List ℕ → Type 0
IsWorstText rule hierarchy_file trace_file workers most text =
    IsToldUnder (TellsWorst rule workers most) hierarchy_file trace_file text

-- the latency of its first line is the `latency` of each line of a sweep by the same rule that is for as
-- many workers, or without
abbrev pub WorstIsSwept : Rule → List ℕ → List ℕ → Option ℕ → ℕ → Type 0
WorstIsSwept rule hierarchy_file trace_file limit most =
    (workers text sweep rest : List ℕ) (first : ℕ) (line : Figures)
    → (told : IsWorstText rule hierarchy_file trace_file limit most text)
    → (swept : IsSweepText rule hierarchy_file trace_file workers sweep)
    → Contains (swept.told.listed ++ swept.told.unlimited ∷ []) line → line.workers ≡ limit
    → told.told.worst ≡ first ∷ rest
    → latency_of (work_of_instance told.instance) (start_of told.told.starts) first ≡ line.latency

-- what is told of the waits of the plan by this rule for this number of workers or without
abbrev pub TellsWaiting : Waiting → Rule → Option ℕ → Hierarchy → Instance → List ℕ → Type 0
TellsWaiting (waiting.Rows grouping) rule workers = TellsWaits rule workers grouping
TellsWaiting (waiting.Worst most) rule workers = TellsWorst rule workers most
