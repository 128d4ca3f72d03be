-- What `waits` prints for the bytes of its files.
use Rattle.std.specs.Prelude.{◌≡◌, ℕ, List, [], ◌∷◌, ◌++◌, Option, Some, None, Contains, sum_by}
use Rattle.waff_model.specs.Layout.{Hierarchy}
use Rattle.waff_model.specs.declared.cell.Cell.{Cell}
use Rattle.waff_assign.specs.Instance.{Instance}
use Rattle.waff_assign.specs.Lowest.{ListsLocks}
use Rattle.waff_plan.specs.Obeys.{IsLeast}
use Rattle.waff_plan.specs.Instances.{served_first, started_first, work_of_instance}
use Rattle.waff_plan.specs.Timing.{start_of}
use Rattle.waff_list.specs.declared.rule.Rule.{Rule}
use Rattle.waff_plan_text.specs.Lines.{text_of}
use Rattle.waff_figures.specs.ByName.{message_names}
use Rattle.waff_figures.specs.Figures.{waits_of}
use Rattle.waff_figures.specs.Sweep.{IsPlanOf}
use Rattle.waff_figures.specs.Waits.{AreWaits}
use Rattle.waff_figures.specs.WaitRows.{AreRows, same_kind}
use Rattle.waff_figures.specs.WaitText.{are_alike, waits_lines}
use Rattle.waff_figures.specs.declared.figures.Figures.{Figures}
use Rattle.waff_figures.specs.declared.grouping.Grouping.{Grouping}
use Rattle.waff_figures.specs.declared.wait_rows.Row.{Row}
use Rattle.waff_figures.specs.declared.waits.Wait.{Wait}
use Rattle.waff_inputs.specs.Inputs.{IsToldUnder}
use Rattle.waff_tool.specs.Figures.{IsSweepText}

-- the plan by this rule for this number of workers, or the least plan, whatever the rule, where there
-- is no number
abbrev pub IsPlanFor : Rule → Instance → Option ℕ → (ℕ → ℕ) → Type 0
IsPlanFor rule instance None start =
    IsLeast (served_first instance start) (work_of_instance instance) start
IsPlanFor rule instance (Some k) start = IsPlanOf rule instance k start

-- the text of who waits for whom in the plan by this rule for this number of workers or without: a
-- line for each kind of wait, by affinity or by name, and by the space of the lock for which it is,
-- whose ticks add up to how long all messages wait
pub record TellsWaits (rule : Rule) (workers : Option ℕ) (grouping : Grouping) (layout : Hierarchy)
    (instance : Instance) (text : List ℕ) : Type 0 where
  pub starts : List ℕ
  pub cells : List Cell
  pub waits : List Wait
  pub rows : List Row
  pub planned : IsPlanFor rule instance workers (start_of starts)
  pub are_cells : ListsLocks layout instance.trace.messages cells
  pub are_waits : AreWaits instance.tree instance.assigned (started_first instance (start_of starts))
      (work_of_instance instance) (start_of starts) waits
  pub are_rows : AreRows (same_kind
      (are_alike grouping instance.assigned (message_names instance.trace.messages)) cells) waits rows
  pub adds_up : sum_by (λ row. row.ticks) rows
      ≡ waits_of (work_of_instance instance) (start_of starts)
  pub lines : text ≡ text_of (waits_lines grouping layout.spaces cells instance.tree
      instance.assigned (message_names instance.trace.messages) rows)

-- that of a hierarchy and a trace
abbrev pub IsWaitsText : Rule → List ℕ → List ℕ → Option ℕ → Grouping → List ℕ → Type 0
IsWaitsText rule hierarchy_file trace_file workers grouping text =
    IsToldUnder (TellsWaits rule workers grouping) hierarchy_file trace_file text

-- the ticks of all rows add up to the `waits` of each line of a sweep by the same rule that is for as
-- many workers, or without
abbrev pub WaitsAreSwept : Rule → List ℕ → List ℕ → Option ℕ → Grouping → Type 0
WaitsAreSwept rule hierarchy_file trace_file limit grouping =
    (workers text sweep : List ℕ) (line : Figures)
    → (told : IsWaitsText rule hierarchy_file trace_file limit grouping text)
    → (swept : IsSweepText rule hierarchy_file trace_file workers sweep)
    → Contains (swept.told.listed ++ swept.told.unlimited ∷ []) line → line.workers ≡ limit
    → sum_by (λ row. row.ticks) told.told.rows ≡ line.waits
