-- What is told of the same files is one text.
use Rattle.std.proofs.Common.{◌≡◌, ℕ, List, [], IfOk, Result, sym, ◌∙◌, subst}
use Rattle.waff_model.specs.Layout.{Hierarchy, IsLayout, has_locks}
use Rattle.waff_model.specs.Messages.{IsTrace}
use Rattle.waff_model.specs.Unique.{AtMostOne}
use Rattle.waff_assign.specs.Instance.{Instance}
use Rattle.waff_figures.specs.Sweep.{sweep_workers}
use Rattle.waff_figures.specs.declared.told.Told.{Told}
use Rattle.waff_figures.specs.declared.told.Told.TheVariants as told
use Rattle.waff_inputs.specs.Inputs.{IsToldUnder}
use Rattle.waff_inputs.specs.Known.{newest}
use Rattle.waff_inputs.proofs.SameInput.{told_under_is_one}
use Rattle.waff_locks.proofs.OneText.{text_is_one}
use Rattle.waff_read.proofs.LimitLaws.{layout_is_within_limits, trace_is_within_limits}
use Rattle.waff_tool.specs.Told.{Tells, numbers_or}
use Rattle.waff_tool.proofs.FigureUniqueness.{sweep_is_one}
use Rattle.waff_tool.proofs.LimitsTexts.{limits_text_is_one}
use Rattle.waff_tool.proofs.NeedsTexts.{needs_are_one}
use Rattle.waff_tool.proofs.PlanUniqueness.{IsSound}
use Rattle.waff_tool.proofs.TextUniqueness.{is_sound, plan_is_one}
use Rattle.waff_tool.proofs.WaitsTexts.{waits_are_one}
use Rattle.waff_tool.proofs.WhereTexts.{where_is_one}
use Rattle.waff_tool.proofs.WhyTexts.{why_is_one}
use Rattle.waff_tool.proofs.WorstTexts.{worst_are_one}

-- of one hierarchy and instance
one : (asked : Told) (layout : Hierarchy) (instance : Instance) → IsLayout layout → IsTrace instance.trace → IsSound instance
    → AtMostOne (Tells asked layout instance)
one told.Assign layout instance is_layout is_trace sound = λ text other p q. p ∙ sym q
one (told.Plan workers rule) layout instance is_layout is_trace sound = plan_is_one instance sound rule workers
one told.Needs layout instance is_layout is_trace sound = needs_are_one instance
one (told.Sweep given rule) layout instance is_layout is_trace sound = sweep_is_one rule (numbers_or given sweep_workers) instance sound
one (told.Limits given rule) layout instance is_layout is_trace sound = limits_text_is_one rule (numbers_or given []) layout.spaces instance sound
one (told.Where workers rule label columns) layout instance is_layout is_trace sound = where_is_one instance sound (has_locks layout.spaces) rule workers label columns
one (told.Waits workers rule grouping) layout instance is_layout is_trace sound = waits_are_one rule workers grouping layout instance sound
one (told.Worst workers rule most) layout instance is_layout is_trace sound = worst_are_one rule workers most layout instance sound
one (told.Why grouping) layout instance is_layout is_trace sound = why_is_one grouping layout instance
one (told.Locks workers rule kind steps) layout instance is_layout is_trace sound =
    text_is_one (record { workers = workers; rule = rule; kind = kind; steps = steps }) layout instance.trace is_layout is_trace

pub told_text_is_one : (asked : Told) (hierarchy_file trace_file : List ℕ) → AtMostOne (IsToldUnder (Tells asked) hierarchy_file trace_file)
told_text_is_one asked hierarchy_file trace_file = told_under_is_one (Tells asked) hierarchy_file trace_file
    (λ i accepts. one asked accepts.layout i (layout_is_within_limits hierarchy_file accepts.layout accepts.is_layout)
    (trace_is_within_limits newest accepts.layout.spaces trace_file i.trace accepts.is_trace) (is_sound hierarchy_file trace_file i accepts))

-- what is told of a case is what is asked
pub tells_as : {S E : Type 0} (bytes : S → List ℕ) (asked this : Told) (layout : Hierarchy) (case instance : Instance) (made : Result S E) → asked ≡ this → case ≡ instance
    → IfOk made (λ text. Tells this layout case (bytes text)) → IfOk made (λ text. Tells asked layout instance (bytes text))
tells_as bytes asked this layout case instance made is same holds =
    subst (λ a. IfOk made (λ text. Tells a layout instance (bytes text))) (sym is)
    (subst (λ (i : Instance). IfOk made (λ text. Tells this layout i (bytes text))) same holds)
