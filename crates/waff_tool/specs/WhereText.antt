-- What tells where the time goes, for the bytes of its files.
use Rattle.std.specs.Prelude.{◌≡◌, ℕ, List, [], ◌∷◌, ◌++◌, Option, None, Some, Contains, length, sum_by, Bool}
use Rattle.std.specs.List.{range_with_len}
use Rattle.waff_model.specs.Layout.{has_locks}
use Rattle.waff_assign.specs.Instance.{Instance}
use Rattle.waff_plan.specs.Instances.{work_of_instance}
use Rattle.waff_plan.specs.Timing.{start_of}
use Rattle.waff_plan.specs.Work.{Work}
use Rattle.waff_list.specs.declared.rule.Rule.{Rule}
use Rattle.waff_plan_text.specs.Lines.{text_of}
use Rattle.waff_figures.specs.ByAffinity.{AreCostsBelow, affinities_lines, affinity_numbers, runs_in}
use Rattle.waff_figures.specs.ByName.{first_messages, has_label, label_lines, labels_of}
use Rattle.waff_figures.specs.Figures.{waits_of}
use Rattle.waff_figures.specs.Laws.{ChainAddsUp, CostsAddUp, NamesAddUp}
use Rattle.waff_figures.specs.Parts.{AreTheParts}
use Rattle.waff_figures.specs.declared.figures.Figures.{Figures}
use Rattle.waff_figures.specs.declared.grouping.Columns.{Columns}
use Rattle.waff_figures.specs.declared.grouping.Columns.TheVariants.{Figures as WithFigures}
use Rattle.waff_figures.specs.declared.grouping.Label.{Label}
use Rattle.waff_figures.specs.declared.parts.PartFigures.{PartFigures}
use Rattle.waff_inputs.specs.Inputs.{IsToldUnder}
use Rattle.waff_tool.specs.Certificates.{IsChained}
use Rattle.waff_tool.specs.Figures.{IsSweepText}

-- with figures the waits of all lines add up to how long all messages wait
abbrev pub WaitsAddUp : Columns → Work → (ℕ → ℕ) → List PartFigures → Type 0
WaitsAddUp columns work start parts =
    columns ≡ WithFigures → sum_by (λ part. part.waits) parts ≡ waits_of work start

-- what is told by affinity of a plan with these starts and this chain: a line for each affinity; the
-- columns add up to the total, to the cost of the chain, and to how long all messages wait. Under a hierarchy
-- with locks the last line is of the messages that have no affinity
pub record TellsAffinities (locks : Bool) (columns : Columns) (instance : Instance) (start : ℕ → ℕ)
    (chain text : List ℕ) : Type 0 where
  pub below : List ℕ
  pub parts : List PartFigures
  pub are_below : AreCostsBelow instance.tree instance.assigned (work_of_instance instance) below
  pub are_parts : AreTheParts columns (work_of_instance instance) start (runs_in instance.tree instance.assigned)
      (affinity_numbers instance.tree) parts
  pub costs_add_up : CostsAddUp instance.tree instance.assigned (work_of_instance instance) chain
  pub chain_adds_up : ChainAddsUp instance.tree instance.assigned (work_of_instance instance) chain
  pub waits_add_up : WaitsAddUp columns (work_of_instance instance) start parts
  pub lines : text ≡ text_of (affinities_lines columns locks instance.tree instance.assigned
      (work_of_instance instance) start chain below parts)

-- what is told by a label of messages, their names or clients: a line for each label; the columns add up
-- to the messages, the total, the cost of the chain, and how long all messages wait
pub record TellsNames (label : Label) (columns : Columns) (instance : Instance) (start : ℕ → ℕ)
    (chain text : List ℕ) : Type 0 where
  pub parts : List PartFigures
  pub are_parts : AreTheParts columns (work_of_instance instance) start
      (has_label (labels_of label instance.trace.messages))
      (first_messages (labels_of label instance.trace.messages)) parts
  pub names_add_up : NamesAddUp (labels_of label instance.trace.messages)
      (work_of_instance instance) chain
  pub waits_add_up : WaitsAddUp columns (work_of_instance instance) start parts
  pub lines : text ≡ text_of (label_lines columns label instance.trace.messages
      (work_of_instance instance) start chain parts)

-- by a label of messages, or without one by affinity
abbrev pub TellsSpent : Bool → Option Label → Columns → Instance → (ℕ → ℕ) → List ℕ → List ℕ → Type 0
TellsSpent locks None columns instance start chain text =
    TellsAffinities locks columns instance start chain text
TellsSpent locks (Some label) columns instance start chain text =
    TellsNames label columns instance start chain text

-- the text of where the time goes in the plan by this rule for this number of workers or without, with
-- its printed chain
pub record TellsWhere (locks : Bool) (rule : Rule) (workers : Option ℕ) (label : Option Label)
    (columns : Columns) (instance : Instance) (text : List ℕ) : Type 0 where
  pub starts : List ℕ
  pub chain : List ℕ
  pub chained : IsChained rule instance workers (start_of starts) chain
  pub spent : TellsSpent locks label columns instance (start_of starts) chain text

-- that of a hierarchy and a trace
abbrev pub IsWhereText : Rule → List ℕ → List ℕ → Option ℕ → Option Label → Columns → List ℕ → Type 0
IsWhereText rule hierarchy_file trace_file workers label columns text =
    IsToldUnder (λ layout. TellsWhere (has_locks layout.spaces) rule workers label columns)
    hierarchy_file trace_file text

-- the figures of its lines
abbrev pub told_parts : (locks : Bool) (label : Option Label) (columns : Columns) (instance : Instance)
    (start : ℕ → ℕ) (chain text : List ℕ)
    → TellsSpent locks label columns instance start chain text → List PartFigures
told_parts locks None columns instance start chain text told = told.parts
told_parts locks (Some label) columns instance start chain text told = told.parts

abbrev pub parts_in : (locks : Bool) (rule : Rule) (workers : Option ℕ) (label : Option Label) (columns : Columns)
    (instance : Instance) (text : List ℕ)
    → TellsWhere locks rule workers label columns instance text → List PartFigures
parts_in locks rule workers label columns instance text told =
    told_parts locks label columns instance (start_of told.starts) told.chain text told.spent

-- with figures the waits of all lines add up to the `waits` of each line of a sweep by the same rule
-- that is for as many workers, or without
abbrev pub FiguresAreSwept : Rule → List ℕ → List ℕ → Option ℕ → Option Label → Type 0
FiguresAreSwept rule hierarchy_file trace_file limit label =
    (workers text sweep : List ℕ) (line : Figures)
    → (told : IsWhereText rule hierarchy_file trace_file limit label WithFigures text)
    → (swept : IsSweepText rule hierarchy_file trace_file workers sweep)
    → Contains (swept.told.listed ++ swept.told.unlimited ∷ []) line → line.workers ≡ limit
    → sum_by (λ part. part.waits)
    (parts_in (has_locks told.accepts.layout.spaces) rule limit label WithFigures told.instance text told.told)
    ≡ line.waits
