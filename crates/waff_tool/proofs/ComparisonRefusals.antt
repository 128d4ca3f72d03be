-- Of the same files one error tells why a comparison refuses them, and none where they are compared.
use Rattle.std.proofs.Common.{◌≡◌, ℕ, inl, inr, ◌==◌, Bool, true, false, cond, List, Result, Ok, Err, length, refl, sym, ◌∙◌, ap, arith, eq-eqb}
use Rattle.std.proofs.lemmas.Bool.{and_parts}
use Rattle.std.proofs.lemmas.Bool.Decides.{nat_tests}
use Rattle.waff_parse.specs.Refusals.{◌>>=◌, told}
use Rattle.waff_model.proofs.SpaceLemmas.{same_pass, spaces_pass}
use Rattle.waff_model.specs.Layout.{Hierarchy, SameSpaces}
use Rattle.waff_model.specs.Messages.{Arrivals}
use Rattle.waff_model.specs.Unique.{AtMostOne}
use Rattle.waff_model.specs.declared.kind.Kind.{Kind}
use Rattle.waff_model.specs.declared.kind.Kind.TheVariants as kind
use Rattle.waff_read.specs.Hierarchies.{hierarchy_of}
use Rattle.waff_inputs.specs.Inputs.{IsRefusal, RefusesHierarchy, TellsOfFiles, layout_of, trace_over}
use Rattle.waff_inputs.specs.declared.fault.ToolError.{ToolError}
use Rattle.waff_inputs.specs.declared.fault.ToolError.TheVariants as tool
use Rattle.waff_inputs.proofs.Refusals.{first_refuses, no_refusal, one_refusal, second_refuses}
use Rattle.waff_tool.specs.Comparison.{AreModels, RefusesComparison, as_models, by_kind, compared_files, have_same_spaces, models_in}
use Rattle.waff_tool.specs.Unique.{ComparedIsNotRefused}

-- what is read behind the first hierarchy, and behind both
abbrev then_second : List ℕ → Hierarchy → Result (Hierarchy × Hierarchy) ToolError
then_second second_file first = layout_of 2 second_file >>= as_models first

abbrev then_trace : List ℕ → Hierarchy × Hierarchy → Result ((Hierarchy × Hierarchy) × Arrivals) ToolError
then_trace trace_file models = trace_over models.0 trace_file >>= λ trace. Ok (models, trace)

not_true : (b : Bool) → ¬ (b ≡ true) → b ≡ false
not_true true none = absurd (none refl)
not_true false none = refl

they_are_same : (first second : Hierarchy) → SameSpaces first.spaces second.spaces → have_same_spaces first second ≡ true
they_are_same first second same =
    let pass = same_pass first.spaces second.spaces same in
    rw (eq-eqb (length first.spaces) (length second.spaces) pass.0) pass.1

they_differ : (first second : Hierarchy) → ¬ SameSpaces first.spaces second.spaces → have_same_spaces first second ≡ false
they_differ first second none = not_true (have_same_spaces first second) (λ yes.
    let parts = and_parts (length first.spaces == length second.spaces) _ yes in
    none (spaces_pass first.spaces second.spaces (grind (arith, nat_tests, parts.0)) parts.1))

-- two hierarchies as models, by their kinds
models_by_kind : (first second : Hierarchy) → SameSpaces first.spaces second.spaces → as_models first second ≡ by_kind first.kind second.kind (first, second)
models_by_kind first second same =
    ap (λ b. cond b (by_kind first.kind second.kind (first, second)) (Err tool.SpacesDiffer)) (they_are_same first second same)

pub spaces_differ : (first second : Hierarchy) → ¬ SameSpaces first.spaces second.spaces → IsRefusal (as_models first second) tool.SpacesDiffer
spaces_differ first second none =
    inl (ap (λ b. cond b (by_kind first.kind second.kind (first, second)) (Err tool.SpacesDiffer)) (they_differ first second none))

same_kinds : (one other : Kind) (pair : Hierarchy × Hierarchy) → one ≡ other → by_kind one other pair ≡ Err tool.ModelsSame
same_kinds kind.Classical kind.Classical pair same = refl
same_kinds kind.Hierarchical kind.Hierarchical pair same = refl
same_kinds kind.Classical kind.Hierarchical pair same = absurd (cc)
same_kinds kind.Hierarchical kind.Classical pair same = absurd (cc)

pub models_same : (first second : Hierarchy) → SameSpaces first.spaces second.spaces → first.kind ≡ second.kind
    → IsRefusal (as_models first second) tool.ModelsSame
models_same first second same kinds = inl (models_by_kind first second same ∙ same_kinds first.kind second.kind (first, second) kinds)

-- two hierarchies are refused by the first, by the second, or as models
pub first_is_refused : (first_file second_file : List ℕ) (error : ToolError) → RefusesHierarchy 1 first_file error
    → IsRefusal (models_in first_file second_file) error
first_is_refused first_file second_file = first_refuses (layout_of 1 first_file) (then_second second_file)

behind_first : (first_file second_file : List ℕ) (first : Hierarchy) (error : ToolError) → hierarchy_of first_file ≡ Ok first
    → IsRefusal (then_second second_file first) error → IsRefusal (models_in first_file second_file) error
behind_first first_file second_file first error is =
    second_refuses (layout_of 1 first_file) (then_second second_file) first error (ap (told (tool.Hier 1)) is)

pub second_is_refused : (first_file second_file : List ℕ) (first : Hierarchy) (error : ToolError) → hierarchy_of first_file ≡ Ok first
    → RefusesHierarchy 2 second_file error → IsRefusal (models_in first_file second_file) error
second_is_refused first_file second_file first error is refused =
    behind_first first_file second_file first error is (first_refuses (layout_of 2 second_file) (as_models first) error refused)

pub models_are_refused : (first_file second_file : List ℕ) (first second : Hierarchy) (error : ToolError) → hierarchy_of first_file ≡ Ok first
    → hierarchy_of second_file ≡ Ok second → IsRefusal (as_models first second) error → IsRefusal (models_in first_file second_file) error
models_are_refused first_file second_file first second error is also refused =
    behind_first first_file second_file first error is
    (second_refuses (layout_of 2 second_file) (as_models first) second error (ap (told (tool.Hier 2)) also) refused)

-- files that are models are read as them
both_read : (first_file second_file : List ℕ) (first second : Hierarchy) → hierarchy_of first_file ≡ Ok first → hierarchy_of second_file ≡ Ok second
    → models_in first_file second_file ≡ as_models first second
both_read first_file second_file first second is also =
    ap (λ r. told (tool.Hier 1) r >>= then_second second_file) is ∙ ap (λ r. told (tool.Hier 2) r >>= as_models first) also

kinds_read : (one other : Kind) (pair : Hierarchy × Hierarchy) → one ≡ kind.Classical → other ≡ kind.Hierarchical → by_kind one other pair ≡ Ok pair
kinds_read one other pair is also = ap (λ k. by_kind k other pair) is ∙ ap (λ k. by_kind kind.Classical k pair) also

kinds_turned : (one other : Kind) (pair : Hierarchy × Hierarchy) → one ≡ kind.Hierarchical → other ≡ kind.Classical
    → by_kind one other pair ≡ Ok (pair.1, pair.0)
kinds_turned one other pair is also = ap (λ k. by_kind k other pair) is ∙ ap (λ k. by_kind kind.Hierarchical k pair) also

pub models_read : (first_file second_file : List ℕ) (classical hierarchical : Hierarchy) → AreModels first_file second_file classical hierarchical
    → models_in first_file second_file ≡ Ok (classical, hierarchical)
models_read first_file second_file classical hierarchical p = elim p.files [
  | inl (one, two) ↦
      both_read first_file second_file classical hierarchical one two ∙ models_by_kind classical hierarchical p.same_spaces
      ∙ kinds_read classical.kind hierarchical.kind (classical, hierarchical) p.is_classical p.is_hierarchical
  | inr (one, two) ↦
      both_read first_file second_file hierarchical classical one two
      ∙ models_by_kind hierarchical classical (record { names = sym p.same_spaces.names; sizes = sym p.same_spaces.sizes })
      ∙ kinds_turned hierarchical.kind classical.kind (hierarchical, classical) p.is_hierarchical p.is_classical
]

-- a comparison refuses two files that are refused, and a trace that is refused over models
pub files_refuse : (first_file second_file trace_file : List ℕ) (error : ToolError) → IsRefusal (models_in first_file second_file) error
    → RefusesComparison first_file second_file trace_file error
files_refuse first_file second_file trace_file = first_refuses (models_in first_file second_file) (then_trace trace_file)

pub trace_refuses : (first_file second_file trace_file : List ℕ) (classical hierarchical : Hierarchy) (error : ToolError)
    → AreModels first_file second_file classical hierarchical → IsRefusal (trace_over classical trace_file) error
    → RefusesComparison first_file second_file trace_file error
trace_refuses first_file second_file trace_file classical hierarchical error p refused =
    second_refuses (models_in first_file second_file) (then_trace trace_file) (classical, hierarchical) error
    (models_read first_file second_file classical hierarchical p)
    (first_refuses (trace_over classical trace_file) (λ trace. Ok ((classical, hierarchical), trace)) error refused)

pub comparison_refusal_is_one : (first second trace_file : List ℕ)
    → AtMostOne (λ (e : ToolError). TellsOfFiles e × RefusesComparison first second trace_file e)
comparison_refusal_is_one first second trace_file = one_refusal (compared_files first second trace_file)

pub compared_is_not_refused : (first second trace_file : List ℕ) → ComparedIsNotRefused first second trace_file
compared_is_not_refused first second trace_file k text error p =
    no_refusal (compared_files first second trace_file) ((p.classical, p.hierarchical), p.trace) error
    (ap (λ r. r >>= then_trace trace_file) (models_read first second p.classical p.hierarchical p.models)
    ∙ ap (λ r. told tool.Trace r >>= λ (trace : Arrivals). Ok ((p.classical, p.hierarchical), trace)) p.is_trace)
