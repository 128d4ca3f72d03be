-- What is explained of files of which one is refused.
use Rattle.std.proofs.Common.{◌≡◌, ◌≢◌, ℕ, List, Option, Some, None, Result, Ok, Err, length, refl, ◌∙◌, ap}
use Rattle.waff_parse.specs.Refusals.{◌>>=◌, told}
use Rattle.waff_model.specs.Layout.{Hierarchy}
use Rattle.waff_model.specs.Messages.{Arrivals}
use Rattle.waff_read.specs.HierRefusals.{Tells}
use Rattle.waff_read.specs.Hierarchies.{hierarchy_of}
use Rattle.waff_inputs.specs.Inputs.{files_of, layout_of}
use Rattle.waff_inputs.specs.Known as known
use Rattle.waff_read.specs.Traces as traces
use Rattle.waff_read.specs.declared.hier_error.HierError.{HierError}
use Rattle.waff_read.specs.declared.hier_error.HierError.TheVariants as hier
use Rattle.waff_read.specs.declared.trace_fault.TraceError.{TraceError}
use Rattle.waff_read.specs.declared.trace_fault.TraceError.TheVariants as trace
use Rattle.waff_plan_text.specs.Given.{Given}
use Rattle.waff_plan_text.specs.PlanTexts as texts
use Rattle.waff_plan_text.specs.declared.refusal.PlanTextError.{PlanTextError}
use Rattle.waff_plan_text.specs.declared.refusal.PlanTextError.TheVariants as text
use Rattle.waff_inputs.specs.declared.fault.ToolError.{ToolError}
use Rattle.waff_inputs.specs.declared.fault.ToolError.TheVariants as tool
use Rattle.waff_tool.specs.Explanations.{IsExplained}
use Rattle.waff_tool.specs.declared.explains.Explained.TheVariants as explained
use Rattle.waff_inputs.proofs.Refusals.{over_layout, with_trace}
use Rattle.waff_tool.proofs.CheckRefusals.{then_given}

-- a reader that tells of another fault than an allocation failure tells the fault of the reading
of_hierarchy : (read : Result Hierarchy HierError) (fault : HierError) → fault ≢ hier.Memory
    → Tells fault read → read ≡ Err fault
of_hierarchy read hier.Memory other tells = absurd (other refl)
of_hierarchy read fault other tells = tells

of_trace : (read : Result Arrivals TraceError) (fault : TraceError) → fault ≢ trace.Memory
    → traces.Tells fault read → read ≡ Err fault
of_trace read trace.Memory other tells = absurd (other refl)
of_trace read fault other tells = tells

of_plan : (read : Result Given PlanTextError) (fault : PlanTextError) → fault ≢ text.Memory
    → texts.Tells fault read → read ≡ Err fault
of_plan read text.Memory other tells = absurd (other refl)
of_plan read fault other tells = tells

-- a reading of the hierarchy fails as the first of all
abbrev then_trace : List ℕ → Hierarchy → Result (Hierarchy × Arrivals) ToolError
then_trace trace_file layout = with_trace layout (known.trace_of layout.spaces trace_file)

refused_hierarchy : (hierarchy_file : List ℕ) (trace_file plan_file : Option (List ℕ)) (error : ToolError)
    → layout_of 1 hierarchy_file ≡ Err error → IsExplained hierarchy_file trace_file plan_file (explained.Fault error)
refused_hierarchy hierarchy_file None plan_file error is = is
refused_hierarchy hierarchy_file (Some trace_file) None error is = ap (λ r. r >>= then_trace trace_file) is
refused_hierarchy hierarchy_file (Some trace_file) (Some plan_file) error is =
    ap (λ r. (r >>= then_trace trace_file) >>= then_given plan_file) is

-- where the hierarchy is refused, its fault is explained
pub hierarchy_is_refused : (hierarchy_file : List ℕ) (trace_file plan_file : Option (List ℕ)) (fault : HierError)
    → fault ≢ hier.Memory → Tells fault (hierarchy_of hierarchy_file)
    → IsExplained hierarchy_file trace_file plan_file (explained.Fault (tool.Hier 1 fault))
hierarchy_is_refused hierarchy_file trace_file plan_file fault other tells =
    refused_hierarchy hierarchy_file trace_file plan_file (tool.Hier 1 fault)
    (ap (told (tool.Hier 1)) (of_hierarchy (hierarchy_of hierarchy_file) fault other tells))

-- where the hierarchy is accepted, it is read, and then the trace
pub hierarchy_is_read : (hierarchy_file : List ℕ) (layout : Hierarchy) → hierarchy_of hierarchy_file ≡ Ok layout → layout_of 1 hierarchy_file ≡ Ok layout
hierarchy_is_read hierarchy_file layout is = ap (told (tool.Hier 1)) is

pub trace_is_read : (hierarchy_file trace_file : List ℕ) (layout : Hierarchy) (trace : Arrivals) → hierarchy_of hierarchy_file ≡ Ok layout
    → known.trace_of layout.spaces trace_file ≡ Ok trace → files_of hierarchy_file trace_file ≡ Ok (layout, trace)
trace_is_read hierarchy_file trace_file layout trace is also =
    over_layout hierarchy_file trace_file layout is ∙ ap (with_trace layout) also

refused_trace : (hierarchy_file trace_file : List ℕ) (plan_file : Option (List ℕ)) (error : ToolError)
    → files_of hierarchy_file trace_file ≡ Err error → IsExplained hierarchy_file (Some trace_file) plan_file (explained.Fault error)
refused_trace hierarchy_file trace_file None error is = is
refused_trace hierarchy_file trace_file (Some plan_file) error is = ap (λ r. r >>= then_given plan_file) is

-- where the hierarchy is accepted and the trace is refused, the fault of the trace is explained
pub trace_is_refused : (hierarchy_file trace_file : List ℕ) (plan_file : Option (List ℕ)) (layout : Hierarchy)
    (fault : TraceError) → fault ≢ trace.Memory → hierarchy_of hierarchy_file ≡ Ok layout
    → traces.Tells fault (known.trace_of layout.spaces trace_file)
    → IsExplained hierarchy_file (Some trace_file) plan_file (explained.Fault (tool.Trace fault))
trace_is_refused hierarchy_file trace_file plan_file layout fault other is tells =
    refused_trace hierarchy_file trace_file plan_file (tool.Trace fault) (over_layout hierarchy_file trace_file layout is
    ∙ ap (with_trace layout) (of_trace (known.trace_of layout.spaces trace_file) fault other tells))

-- where both are accepted and the plan is refused, the fault of the plan is explained
pub plan_is_refused : (hierarchy_file trace_file plan_file : List ℕ) (layout : Hierarchy) (trace : Arrivals)
    (fault : PlanTextError) → fault ≢ text.Memory → hierarchy_of hierarchy_file ≡ Ok layout
    → known.trace_of layout.spaces trace_file ≡ Ok trace
    → texts.Tells fault (texts.plan_of trace.version (length trace.messages) plan_file)
    → IsExplained hierarchy_file (Some trace_file) (Some plan_file) (explained.Fault (tool.PlanText fault))
plan_is_refused hierarchy_file trace_file plan_file layout trace fault other is also tells =
    ap (λ r. r >>= then_given plan_file) (trace_is_read hierarchy_file trace_file layout trace is also)
    ∙ ap (λ r. told tool.PlanText r >>= λ (g : Given). Ok (trace, g))
    (of_plan (texts.plan_of trace.version (length trace.messages) plan_file) fault other tells)
