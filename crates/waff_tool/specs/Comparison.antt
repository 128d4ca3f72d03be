-- What is printed where a classical and a hierarchical hierarchy are compared on one trace.
use Rattle.std.specs.Prelude.{◌≡◌, ℕ, ◌≤◌, ◌⊎◌, ◌↔◌, Bool, true, false, IsTrue, List, [], ◌∷◌, ◌++◌}
use Rattle.std.specs.Prelude.{◌==◌, ◌&&◌, ◌||◌, length, Option, Some, None, Result, Ok, Err, codes, decimal}
use Rattle.std.specs.Prelude.{if◌then◌else◌}
use Rattle.std.specs.List.{list_all, zip}
use Rattle.std.specs.Str.{bytes_eq}
use Rattle.waff_model.specs.Layout.{Hierarchy, SameSpaces, has_locks}
use Rattle.waff_model.specs.Messages.{Arrivals}
use Rattle.waff_model.specs.Versions.{has_clients, has_releases}
use Rattle.waff_model.specs.declared.kind.Kind.{Kind}
use Rattle.waff_model.specs.declared.kind.Kind.TheVariants as kind
use Rattle.waff_model.specs.declared.message.Version.{Version}
use Rattle.waff_read.specs.Hierarchies.{hierarchy_of}
use Rattle.waff_inputs.specs.Known.{trace_of}
use Rattle.waff_assign.specs.Lowest.{IsAssignment}
use Rattle.waff_assign.specs.Instance.{Instance}
use Rattle.waff_assign.specs.Order.{Refines}
use Rattle.waff_plan.specs.Instances.{work_of_instance}
use Rattle.waff_plan.specs.Timetable.{work_of_messages}
use Rattle.waff_plan.specs.Timing.{start_of}
use Rattle.waff_plan.specs.Totals.{totals_of}
use Rattle.waff_plan.specs.Work.{total_of}
use Rattle.waff_plan.specs.declared.totals.Totals.{Totals}
use Rattle.waff_list.specs.declared.rule.Rule.TheVariants.{Arrival}
use Rattle.waff_inputs.specs.Inputs.{IsRefusal, instance_under, layout_of, trace_over}
use Rattle.waff_parse.specs.Refusals.{◌>>=◌}
use Rattle.waff_tool.specs.Certificates.{IsBounded, IsCertified}
use Rattle.waff_plan_text.specs.Lines.{text_of}
use Rattle.waff_inputs.specs.declared.fault.ToolError.{ToolError}
use Rattle.waff_inputs.specs.declared.fault.ToolError.TheVariants as tool
use Rattle.waff_tool.specs.declared.measures.Measured.{Measured}
use Rattle.waff_assign.specs.Held.{AreKnown, Held}

-- the totals of the least plan, with its printed chain
pub record AreCertifiedTotals (instance : Instance) (totals : Totals) : Type 0 where
  pub starts : List ℕ
  pub chain : List ℕ
  pub certified : IsCertified instance (start_of starts) chain
  pub told : totals ≡ totals_of None (work_of_instance instance) (start_of starts) chain

-- the totals of the list plan for k workers, with its printed chain
pub record AreListTotals (instance : Instance) (k : ℕ) (totals : Totals) : Type 0 where
  pub starts : List ℕ
  pub chain : List ℕ
  pub bounded : IsBounded Arrival instance k (start_of starts) chain
  pub told : totals ≡ totals_of (Some k) (work_of_instance instance) (start_of starts) chain

-- what is told of a trace under one hierarchy: of its least plan, and of its plan by arrival for k
-- workers, each with its printed chain
pub record IsMeasured (layout : Hierarchy) (assigned : List Held) (trace : Arrivals) (k : ℕ)
    (measured : Measured) : Type 0 where
  pub kind : measured.kind ≡ layout.kind
  pub least : AreCertifiedTotals (instance_under layout assigned trace) measured.unlimited
  pub by_arrival : AreListTotals (instance_under layout assigned trace) k measured.listed

abbrev pub kind_field : Kind → List ℕ
kind_field kind.Classical = codes "classical"
kind_field kind.Hierarchical = codes "hierarchical"

-- what the lines of the hierarchies tell, of a trace without releases or with them
abbrev pub header_where : Bool → List (List ℕ)
header_where false =
    codes "model" ∷ codes "length" ∷ codes "chain"
    ∷ codes "list" ∷ codes "listchain" ∷ codes "left" ∷ codes "right" ∷ []
header_where true =
    codes "model" ∷ codes "length" ∷ codes "release"
    ∷ codes "chain" ∷ codes "list" ∷ codes "listrelease" ∷ codes "listchain"
    ∷ codes "left" ∷ codes "right" ∷ []

abbrev pub measures_header : Version → List (List ℕ)
measures_header version = header_where (has_releases version)

-- what is told of a plan: its length, and the release, where the trace has releases, and the cost of its
-- printed chain
abbrev pub fields_where : Bool → Totals → List (List ℕ)
fields_where false plan = decimal plan.length ∷ decimal plan.cost ∷ []
fields_where true plan = decimal plan.length ∷ decimal plan.release ∷ decimal plan.cost ∷ []

abbrev pub plan_fields : Version → Totals → List (List ℕ)
plan_fields version plan = fields_where (has_releases version) plan

-- the line of a hierarchy
abbrev pub measured_line : Version → Measured → List (List ℕ)
measured_line version measured =
    kind_field measured.kind
    ∷ plan_fields version measured.unlimited
    ++ plan_fields version measured.listed
    ++ decimal measured.listed.left ∷ decimal measured.listed.right ∷ []

abbrev pub answer_field : Option Bool → List ℕ
answer_field (Some true) = codes "yes"
answer_field (Some false) = codes "no"
answer_field None = codes "-"

-- the lines of a comparison
abbrev pub compare_lines : Version → ℕ → ℕ → Measured → Measured → Option Bool → List (List (List ℕ))
compare_lines version k total classical hierarchical refined =
    (codes "workers" ∷ decimal k ∷ [])
    ∷ (codes "total" ∷ decimal total ∷ [])
    ∷ measures_header version
    ∷ measured_line version classical
    ∷ measured_line version hierarchical
    ∷ (codes "refines" ∷ answer_field refined ∷ [])
    ∷ []

-- the affinities of the messages of a trace under a hierarchy, and what is told of it for k workers
pub record AreAssignedAndMeasured (layout : Hierarchy) (trace : Arrivals) (k : ℕ)
    (made : List Held × Measured) : Type 0 where
  pub assignment : IsAssignment layout trace.messages made.0
  pub known : AreKnown layout.tree made.0
  pub measured : IsMeasured layout made.0 trace k made.1

-- whether a fact holds, which is not told where a hierarchy has locks
abbrev pub IsToldWhere : Bool → Type 0 → Option Bool → Type 0
IsToldWhere true Fact told = told ≡ None
IsToldWhere false Fact told = (yes : Bool) × (told ≡ Some yes) × (IsTrue yes ↔ Fact)

-- the text of the comparison of a classical and a hierarchical hierarchy on a trace: where neither has locks it
-- tells whether the hierarchical one refines the classical one, and where it does its least plan is no
-- longer, but for a trace with clients, whose plans serve in an order of their own
pub record IsCompared (classical hierarchical : Hierarchy)
    (trace : Arrivals) (k : ℕ) (text : List ℕ) : Type 0 where
  pub coarse : List Held
  pub fine : List Held
  pub of_classical : Measured
  pub of_hierarchical : Measured
  pub refined : Option Bool
  pub coarse_assignment : IsAssignment classical trace.messages coarse
  pub fine_assignment : IsAssignment hierarchical trace.messages fine
  pub classical_measured : IsMeasured classical coarse trace k of_classical
  pub hierarchical_measured : IsMeasured hierarchical fine trace k of_hierarchical
  pub told : IsToldWhere (has_locks classical.spaces || has_locks hierarchical.spaces)
      (Refines hierarchical.tree fine classical.tree coarse) refined
  pub no_longer : has_clients trace.version ≡ false → refined ≡ Some true
      → of_hierarchical.unlimited.length ≤ of_classical.unlimited.length
  pub lines : text ≡ text_of (compare_lines trace.version k
      (total_of (work_of_messages trace.messages)) of_classical of_hierarchical refined)

-- two files that are a classical and a hierarchical hierarchy, in either order, of the same spaces
pub record AreModels (first_file second_file : List ℕ)
    (classical hierarchical : Hierarchy) : Type 0 where
  pub files : ((hierarchy_of first_file ≡ Ok classical)
      × (hierarchy_of second_file ≡ Ok hierarchical))
      ⊎ ((hierarchy_of first_file ≡ Ok hierarchical) × (hierarchy_of second_file ≡ Ok classical))
  pub is_classical : classical.kind ≡ kind.Classical
  pub is_hierarchical : hierarchical.kind ≡ kind.Hierarchical
  pub same_spaces : SameSpaces classical.spaces hierarchical.spaces

-- the text of the comparison of two hierarchies on a trace
pub record IsCompareText (first_file second_file trace_file : List ℕ)
    (k : ℕ) (text : List ℕ) : Type 0 where
  pub classical : Hierarchy
  pub hierarchical : Hierarchy
  pub trace : Arrivals
  pub models : AreModels first_file second_file classical hierarchical
  pub is_trace : trace_of classical.spaces trace_file ≡ Ok trace
  pub compared : IsCompared classical hierarchical trace k text

-- two files that are hierarchies
abbrev pub AreHierarchies : List ℕ → List ℕ → Hierarchy → Hierarchy → Type 0
AreHierarchies first_file second_file first second =
    (hierarchy_of first_file ≡ Ok first) × (hierarchy_of second_file ≡ Ok second)

-- whether two hierarchies have the same spaces
abbrev pub have_same_spaces : Hierarchy → Hierarchy → Bool
have_same_spaces first second =
    length first.spaces == length second.spaces
    && list_all (λ pair. bytes_eq pair.0.name pair.1.name && pair.0.size == pair.1.size)
    (zip first.spaces second.spaces)

-- the classical one of two hierarchies first
abbrev pub by_kind : Kind → Kind → Hierarchy × Hierarchy → Result (Hierarchy × Hierarchy) ToolError
by_kind kind.Classical kind.Hierarchical pair = Ok pair
by_kind kind.Hierarchical kind.Classical pair = Ok (pair.1, pair.0)
by_kind kind.Classical kind.Classical pair = Err tool.ModelsSame
by_kind kind.Hierarchical kind.Hierarchical pair = Err tool.ModelsSame

-- two hierarchies as models of the same spaces
abbrev pub as_models : Hierarchy → Hierarchy → Result (Hierarchy × Hierarchy) ToolError
as_models first second =
    if have_same_spaces first second then by_kind first.kind second.kind (first, second)
    else Err tool.SpacesDiffer

-- what the bytes of two hierarchies are read as: each of them, and then both as models
abbrev pub models_in : List ℕ → List ℕ → Result (Hierarchy × Hierarchy) ToolError
models_in first_file second_file = do
  first ← layout_of 1 first_file
  second ← layout_of 2 second_file
  as_models first second

-- what the bytes of two hierarchies and of a trace over them are read as, in this order
abbrev pub compared_files : List ℕ → List ℕ → List ℕ → Result ((Hierarchy × Hierarchy) × Arrivals) ToolError
compared_files first_file second_file trace_file = do
  models ← models_in first_file second_file
  trace ← trace_over models.0 trace_file
  Ok (models, trace)

-- an error tells the first of the faults of the files
abbrev pub RefusesComparison : List ℕ → List ℕ → List ℕ → ToolError → Type 0
RefusesComparison first_file second_file trace_file =
    IsRefusal (compared_files first_file second_file trace_file)
