-- Of one reading of files one error tells why it fails, and none where it does not.
use Rattle.std.proofs.Common.{◌≡◌, ℕ, inl, inr, List, Result, Ok, Err, refl, sym, ◌∙◌, ap, subst}
use Rattle.waff_parse.specs.Refusals.{◌>>=◌, told}
use Rattle.waff_model.specs.Layout.{Hierarchy}
use Rattle.waff_model.specs.Messages.{Arrivals}
use Rattle.waff_model.specs.Unique.{AtMostOne}
use Rattle.waff_read.specs.HierRefusals as hierarchies
use Rattle.waff_read.specs.Hierarchies.{hierarchy_of}
use Rattle.waff_read.specs.Traces as traces
use Rattle.waff_read.specs.declared.hier_error.HierError.{HierError}
use Rattle.waff_read.specs.declared.hier_error.HierError.TheVariants as hier
use Rattle.waff_read.specs.declared.trace_fault.TraceError.{TraceError}
use Rattle.waff_read.specs.declared.trace_fault.TraceError.TheVariants as trace
use Rattle.waff_assign.specs.Instance.{Instance}
use Rattle.waff_inputs.specs.Known.{trace_of}
use Rattle.waff_inputs.specs.Inputs.{Accepts, IsRefusal, Refuses, TellsOfFiles, files_of, layout_of, trace_over}
use Rattle.waff_inputs.specs.ToolErrors.{hierarchy_error, trace_error}
use Rattle.waff_inputs.specs.Unique.{AcceptedIsNotRefused}
use Rattle.waff_inputs.specs.declared.fault.ToolError.{ToolError}
use Rattle.waff_inputs.specs.declared.fault.ToolError.TheVariants as tool

-- an error that tells of the files is that of the reading
pub is_told : {A : Type 0} (read : Result A ToolError) (error : ToolError) → TellsOfFiles error → IsRefusal read error → read ≡ Err error
is_told read error tells refused = elim refused [
  | inl is ↦ is
  | inr (inl memory) ↦ absurd (subst TellsOfFiles memory tells)
  | inr (inr write) ↦ absurd (subst TellsOfFiles write tells)
]

pub one_refusal : {A : Type 0} (read : Result A ToolError) → AtMostOne (λ (e : ToolError). TellsOfFiles e × IsRefusal read e)
one_refusal read one other (tells, refused) (also, too) =
    let p = is_told read one tells refused in
    let q = is_told read other also too in
    cc

pub no_refusal : {A : Type 0} (read : Result A ToolError) (a : A) (error : ToolError) → read ≡ Ok a → TellsOfFiles error → ¬ IsRefusal read error
no_refusal read a error is tells refused =
    let p = is_told read error tells refused in
    cc

-- of two readings one after the other the first fails, or the second where the first does not
pub first_refuses : {A B : Type 0} (read : Result A ToolError) (more : A → Result B ToolError) (error : ToolError) → IsRefusal read error
    → IsRefusal (read >>= more) error
first_refuses read more error refused = elim refused [
  | inl is ↦ inl (ap (λ r. r >>= more) is)
  | inr other ↦ inr other
]

pub second_refuses : {A B : Type 0} (read : Result A ToolError) (more : A → Result B ToolError) (a : A) (error : ToolError) → read ≡ Ok a
    → IsRefusal (more a) error → IsRefusal (read >>= more) error
second_refuses read more a error is refused = elim refused [
  | inl failed ↦ inl (ap (λ r. r >>= more) is ∙ failed)
  | inr other ↦ inr other
]

-- what a reader tells is a refusal
pub hierarchy_refuses : (number : ℕ) (hierarchy_file : List ℕ) (fault : HierError) → hierarchies.Tells fault (hierarchy_of hierarchy_file)
    → IsRefusal (layout_of number hierarchy_file) (hierarchy_error number fault)
hierarchy_refuses number hierarchy_file hier.Memory tells = inr (inl refl)
hierarchy_refuses number hierarchy_file fault tells = inl (ap (told (tool.Hier number)) tells)

pub trace_refuses : (layout : Hierarchy) (trace_file : List ℕ) (fault : TraceError) → traces.Tells fault (trace_of layout.spaces trace_file)
    → IsRefusal (trace_over layout trace_file) (trace_error fault)
trace_refuses layout trace_file trace.Memory tells = inr (inl refl)
trace_refuses layout trace_file fault tells = inl (ap (told tool.Trace) tells)

-- of both files the hierarchy is refused, or the trace over it
pub hierarchy_is_refused : (hierarchy_file trace_file : List ℕ) (error : ToolError) → IsRefusal (layout_of 1 hierarchy_file) error
    → Refuses hierarchy_file trace_file error
hierarchy_is_refused hierarchy_file trace_file =
    first_refuses (layout_of 1 hierarchy_file) (λ layout. trace_over layout trace_file >>= λ trace. Ok (layout, trace))

pub trace_is_refused : (hierarchy_file trace_file : List ℕ) (layout : Hierarchy) (error : ToolError) → hierarchy_of hierarchy_file ≡ Ok layout
    → IsRefusal (trace_over layout trace_file) error → Refuses hierarchy_file trace_file error
trace_is_refused hierarchy_file trace_file layout error is refused =
    second_refuses (layout_of 1 hierarchy_file) (λ layout. trace_over layout trace_file >>= λ trace. Ok (layout, trace)) layout error
    (ap (told (tool.Hier 1)) is) (first_refuses (trace_over layout trace_file) (λ trace. Ok (layout, trace)) error refused)

-- files that are accepted are read
pub files_read : (hierarchy_file trace_file : List ℕ) (instance : Instance) (accepts : Accepts hierarchy_file trace_file instance)
    → files_of hierarchy_file trace_file ≡ Ok (accepts.layout, instance.trace)
files_read hierarchy_file trace_file instance accepts =
    let after : Hierarchy → Result (Hierarchy × Arrivals) ToolError = λ layout. trace_over layout trace_file >>= λ trace. Ok (layout, trace) in
    ap (λ r. told (tool.Hier 1) r >>= after) accepts.is_layout ∙ ap (λ r. told tool.Trace r >>= λ (trace : Arrivals). Ok (accepts.layout, trace)) accepts.is_trace

pub accepted_is_not_refused : (hierarchy_file trace_file : List ℕ) → AcceptedIsNotRefused hierarchy_file trace_file
accepted_is_not_refused hierarchy_file trace_file instance error accepts =
    no_refusal (files_of hierarchy_file trace_file) (accepts.layout, instance.trace) error (files_read hierarchy_file trace_file instance accepts)

-- a reading whose fault is told in other words fails for that fault
pub told_back : {E F A : Type 0} (name : E → F) (read : Result A E) (error : F) → told name read ≡ Err error → (fault : E) × (read ≡ Err fault) × (name fault ≡ error)
told_back name (Ok a) error is = absurd (cc)
told_back name (Err fault) error is = (fault, refl, (let same = is in cc))

-- where the hierarchy is accepted, the trace over it is read
abbrev pub with_trace : Hierarchy → Result Arrivals TraceError → Result (Hierarchy × Arrivals) ToolError
with_trace layout read = told tool.Trace read >>= λ trace. Ok (layout, trace)

pub over_layout : (hierarchy_file trace_file : List ℕ) (layout : Hierarchy) → hierarchy_of hierarchy_file ≡ Ok layout
    → files_of hierarchy_file trace_file ≡ with_trace layout (trace_of layout.spaces trace_file)
over_layout hierarchy_file trace_file layout is =
    ap (λ r. told (tool.Hier 1) r >>= λ (l : Hierarchy). with_trace l (trace_of l.spaces trace_file)) is

with_trace_back : (layout : Hierarchy) (read : Result Arrivals TraceError) (error : ToolError) → with_trace layout read ≡ Err error
    → (fault : TraceError) × (read ≡ Err fault) × (tool.Trace fault ≡ error)
with_trace_back layout (Ok trace) error is = absurd (cc)
with_trace_back layout (Err fault) error is = (fault, refl, (let same = is in cc))

pub trace_told_back : (hierarchy_file trace_file : List ℕ) (layout : Hierarchy) (error : ToolError) → hierarchy_of hierarchy_file ≡ Ok layout
    → files_of hierarchy_file trace_file ≡ Err error → (fault : TraceError) × (trace_of layout.spaces trace_file ≡ Err fault) × (tool.Trace fault ≡ error)
trace_told_back hierarchy_file trace_file layout error is failed =
    with_trace_back layout (trace_of layout.spaces trace_file) error (sym (over_layout hierarchy_file trace_file layout is) ∙ failed)
