-- What is printed of several hierarchies that serve one trace.
use Rattle.std.specs.Prelude.{◌≡◌, ◌≢◌, ℕ, ◌+◌, ◌<◌, List, [], ◌∷◌, Option, Some, None, IfSome, Result, Ok, Err, All, codes}
use Rattle.std.specs.Prelude.{decimal, length, slice_index_or, take}
use Rattle.std.specs.List.{AllZip}
use Rattle.waff_model.specs.Layout.{Hierarchy, SameSpaces}
use Rattle.waff_model.specs.Messages.{Arrivals}
use Rattle.waff_model.specs.declared.kind.Kind.{Kind}
use Rattle.waff_read.specs.Hierarchies.{hierarchy_of}
use Rattle.waff_inputs.specs.Known.{trace_of}
use Rattle.waff_read.specs.declared.hier_error.HierError.{HierError}
use Rattle.waff_read.specs.declared.trace_fault.TraceError.{TraceError}
use Rattle.waff_assign.specs.Instance.{Instance}
use Rattle.waff_plan.specs.Instances.{served_first, work_of_instance}
use Rattle.waff_plan.specs.Obeys.{IsLeast}
use Rattle.waff_plan.specs.Timing.{start_of}
use Rattle.waff_plan.specs.Work.{length_of}
use Rattle.waff_list.specs.declared.rule.Rule.{Rule}
use Rattle.waff_plan_text.specs.Lines.{text_of}
use Rattle.waff_figures.specs.Sweep.{IsListed, quality_fields, quality_names}
use Rattle.waff_inputs.specs.Inputs.{Accepts, RefusesHierarchy, TellsOfFiles}
use Rattle.waff_inputs.specs.declared.fault.ToolError.{ToolError}
use Rattle.waff_inputs.specs.declared.fault.ToolError.TheVariants as tool
use Rattle.waff_tool.specs.Comparison.{kind_field}
use Rattle.waff_tool.specs.Figures.{IsSweepText}
use Rattle.waff_tool.specs.declared.ranks.Ranked.{Ranked}

-- what is told of a trace under a hierarchy: its model, how many affinities it has, how long its
-- least plan is, and the figures of the plan by this rule for k workers
pub record IsRankedUnder (rule : Rule) (kind : Kind) (k : ℕ) (instance : Instance)
    (ranked : Ranked) : Type 0 where
  pub starts : List ℕ
  pub kind_is : ranked.kind ≡ kind
  pub affinities : ranked.affinities ≡ length instance.tree
  pub least : IsLeast (served_first instance (start_of starts)) (work_of_instance instance)
      (start_of starts)
  pub shortest : ranked.length ≡ length_of (work_of_instance instance) (start_of starts)
  pub listed : IsListed rule instance ranked.length ranked.listed
  pub workers : ranked.listed.workers ≡ Some k

-- what is told of the bytes of a trace under those of a hierarchy
pub record IsRanked (rule : Rule) (trace_file : List ℕ) (k : ℕ) (hierarchy_file : List ℕ)
    (ranked : Ranked) : Type 0 where
  pub instance : Instance
  pub accepts : Accepts hierarchy_file trace_file instance
  pub under : IsRankedUnder rule accepts.layout.kind k instance ranked

-- what is told of a trace that was read, under a hierarchy
abbrev pub IsRankedOver : Rule → Arrivals → ℕ → Hierarchy → Ranked → Type 0
IsRankedOver rule trace k layout ranked =
    (file trace_file : List ℕ) → hierarchy_of file ≡ Ok layout
    → trace_of layout.spaces trace_file ≡ Ok trace → IsRanked rule trace_file k file ranked

-- another hierarchy has the same spaces
abbrev pub HasSpacesOf : Hierarchy → Hierarchy → Type 0
HasSpacesOf layout other = SameSpaces layout.spaces other.spaces

abbrev pub rank_header : List (List ℕ)
rank_header =
    codes "hierarchy" ∷ codes "model" ∷ codes "affinities"
    ∷ codes "length" ∷ codes "list" ∷ quality_names

-- the line of the hierarchy of this number
abbrev pub rank_row : ℕ → Ranked → List (List ℕ)
rank_row number ranked =
    decimal number
    ∷ kind_field ranked.kind
    ∷ decimal ranked.affinities
    ∷ decimal ranked.length
    ∷ decimal ranked.listed.length
    ∷ quality_fields ranked.listed

-- the lines of hierarchies, of which the first has this number
abbrev pub rank_rows : ℕ → List Ranked → List (List (List ℕ))
rank_rows number [] = []
rank_rows number (ranked ∷ more) = rank_row number ranked ∷ rank_rows (number + 1) more

-- the text of the hierarchies of these files, in their order, that serve a trace
pub record IsRankText (rule : Rule) (files : List (List ℕ)) (trace_file : List ℕ) (k : ℕ)
    (text : List ℕ) : Type 0 where
  pub ranks : List Ranked
  pub each : AllZip (IsRanked rule trace_file k) files ranks
  pub lines : text ≡ text_of (rank_header ∷ rank_rows 1 ranks)

-- files that are these hierarchies
abbrev pub AreRead : List (List ℕ) → List Hierarchy → Type 0
AreRead files layouts = AllZip (λ file layout. hierarchy_of file ≡ Ok layout) files layouts

-- the file of this place, from 0
abbrev pub file_at : List (List ℕ) → ℕ → List ℕ
file_at files at = slice_index_or files at []

-- what a file that has this number is read as: the hierarchy that it is, or why it is refused
abbrev pub IsReading : ℕ → List ℕ → Result Hierarchy ToolError → Type 0
IsReading number file (Ok layout) = hierarchy_of file ≡ Ok layout
IsReading number file (Err error) = RefusesHierarchy number file error × (error ≢ tool.Write)

-- what these files are read as, where memory was there for it
pub record AreReadings (files : List (List ℕ)) (slots : List (Option (Result Hierarchy ToolError))) : Type 0 where
  pub count : length slots ≡ length files
  pub each : (at : ℕ) → at < length slots
      → IfSome (slice_index_or slots at None) (IsReading (at + 1) (file_at files at))

-- bytes that are a hierarchy
abbrev pub IsHierarchy : List ℕ → Type 0
IsHierarchy file = (layout : Hierarchy) × (hierarchy_of file ≡ Ok layout)

-- bytes that are a hierarchy under which a trace is accepted
abbrev pub Admits : List ℕ → List ℕ → Type 0
Admits trace_file file =
    (layout : Hierarchy) × (trace : Arrivals)
    × (hierarchy_of file ≡ Ok layout) × (trace_of layout.spaces trace_file ≡ Ok trace)

-- bytes that are a hierarchy under which a trace is refused
abbrev pub Refutes : List ℕ → TraceError → List ℕ → Type 0
Refutes trace_file fault file =
    (layout : Hierarchy)
    × (hierarchy_of file ≡ Ok layout) × (trace_of layout.spaces trace_file ≡ Err fault)

-- the first of the files that is no hierarchy: its number, from 1, and its fault
pub record IsFirstRefused (files : List (List ℕ)) (number : ℕ) (fault : HierError) : Type 0 where
  pub at : ℕ
  pub number_is : number ≡ at + 1
  pub within : at < length files
  pub before : All IsHierarchy (take at files)
  pub refused : hierarchy_of (file_at files at) ≡ Err fault

-- all of the files are hierarchies, and the fault is that of the first under which the trace is
-- refused
pub record IsFirstRefuted (files : List (List ℕ)) (trace_file : List ℕ)
    (fault : TraceError) : Type 0 where
  pub hierarchies : All IsHierarchy files
  pub at : ℕ
  pub within : at < length files
  pub before : All (Admits trace_file) (take at files)
  pub refuted : Refutes trace_file fault (file_at files at)

-- an error tells the first of the faults: of the hierarchies in their order, and then of the trace
-- under each in order; an allocation failure and a writer's fault tell nothing of the files
abbrev pub RefusesRank : List (List ℕ) → List ℕ → ToolError → Type 0
RefusesRank files trace_file (tool.Hier number fault) = IsFirstRefused files number fault
RefusesRank files trace_file (tool.Trace fault) = IsFirstRefuted files trace_file fault
RefusesRank files trace_file tool.Write = Unit {0}
RefusesRank files trace_file tool.Memory = Unit {0}
RefusesRank files trace_file error = ⊥

-- files that have a text are refused for no error that tells of them
abbrev pub RankedIsNotRefused : Rule → List (List ℕ) → List ℕ → Type 0
RankedIsNotRefused rule files trace_file =
    (k : ℕ) (text : List ℕ) (error : ToolError) → IsRankText rule files trace_file k text
    → TellsOfFiles error → ¬ RefusesRank files trace_file error

-- the figures of a hierarchy are those that a sweep for as many workers by the same rule tells of it
abbrev pub IsRankedAsSwept : Rule → List ℕ → List ℕ → Type 0
IsRankedAsSwept rule hierarchy_file trace_file =
    (k : ℕ) (ranked : Ranked) (text : List ℕ) → IsRanked rule trace_file k hierarchy_file ranked
    → (swept : IsSweepText rule hierarchy_file trace_file (k ∷ []) text)
    → swept.told.listed ≡ ranked.listed ∷ []
