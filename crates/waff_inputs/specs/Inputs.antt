-- What the bytes of a hierarchy and of a trace are accepted as, and what a fault tells of them.
use Rattle.std.specs.Prelude.{◌≡◌, ◌⊎◌, ℕ, List, Result, Ok, Err}
use Rattle.waff_parse.specs.Refusals.{◌>>=◌, told}
use Rattle.waff_model.specs.Layout.{Hierarchy}
use Rattle.waff_model.specs.Messages.{Arrivals}
use Rattle.waff_read.specs.Hierarchies.{hierarchy_of}
use Rattle.waff_inputs.specs.Known.{trace_of}
use Rattle.waff_assign.specs.Held.{Held}
use Rattle.waff_assign.specs.Instance.{Instance}
use Rattle.waff_assign.specs.Lowest.{IsAssignment}
use Rattle.waff_inputs.specs.declared.fault.ToolError.{ToolError}
use Rattle.waff_inputs.specs.declared.fault.ToolError.TheVariants as tool

-- bytes that are a hierarchy and a trace over it, and the instance that they come to: the tree of the
-- hierarchy, the trace, and its assignment, which says what each message holds
pub record Accepts (hierarchy_file trace_file : List ℕ) (instance : Instance) : Type 0 where
  pub layout : Hierarchy
  pub is_layout : hierarchy_of hierarchy_file ≡ Ok layout
  pub tree : layout.tree ≡ instance.tree
  pub is_trace : trace_of layout.spaces trace_file ≡ Ok instance.trace
  pub assignment : IsAssignment layout instance.trace.messages instance.assigned

-- a trace under a hierarchy, with what its messages hold
abbrev pub instance_under : Hierarchy → List Held → Arrivals → Instance
instance_under layout assigned trace =
    record { tree = layout.tree; assigned = assigned; trace = trace }

-- what is told of files is told of the hierarchy and the instance that they come to
pub record IsToldUnder {A : Type 0} (IsTold : Hierarchy → Instance → A → Type 0)
    (hierarchy_file trace_file : List ℕ) (a : A) : Type 0 where
  pub instance : Instance
  pub accepts : Accepts hierarchy_file trace_file instance
  pub told : IsTold accepts.layout instance a

-- of the instance alone
abbrev pub IsToldOf : {A : Type 0} → (Instance → A → Type 0) → List ℕ → List ℕ → A → Type 0
IsToldOf IsTold hierarchy_file trace_file a =
    IsToldUnder (λ layout. IsTold) hierarchy_file trace_file a

-- what the bytes of the hierarchy of this number are read as
abbrev pub layout_of : ℕ → List ℕ → Result Hierarchy ToolError
layout_of number hierarchy_file = told (tool.Hier number) (hierarchy_of hierarchy_file)

-- what the bytes of a trace over a hierarchy are read as
abbrev pub trace_over : Hierarchy → List ℕ → Result Arrivals ToolError
trace_over layout trace_file = told tool.Trace (trace_of layout.spaces trace_file)

-- what the bytes of a hierarchy and of a trace over it are read as, the hierarchy first
abbrev pub files_of : List ℕ → List ℕ → Result (Hierarchy × Arrivals) ToolError
files_of hierarchy_file trace_file = do
  layout ← layout_of 1 hierarchy_file
  trace ← trace_over layout trace_file
  Ok (layout, trace)

-- an error tells why a reading of files fails; an allocation failure and a writer's fault tell nothing of
-- the files
abbrev pub IsRefusal : {A : Type 0} → Result A ToolError → ToolError → Type 0
IsRefusal read error = (read ≡ Err error) ⊎ (error ≡ tool.Memory) ⊎ (error ≡ tool.Write)

-- an error tells why the hierarchy of this number is refused
abbrev pub RefusesHierarchy : ℕ → List ℕ → ToolError → Type 0
RefusesHierarchy number hierarchy_file = IsRefusal (layout_of number hierarchy_file)

-- an error tells the first file that is refused, and why
abbrev pub Refuses : List ℕ → List ℕ → ToolError → Type 0
Refuses hierarchy_file trace_file = IsRefusal (files_of hierarchy_file trace_file)

-- an error that tells of the files: neither an allocation failure nor a writer's fault
abbrev pub TellsOfFiles : ToolError → Type 0
TellsOfFiles tool.Memory = ⊥
TellsOfFiles tool.Write = ⊥
TellsOfFiles error = Unit {0}
