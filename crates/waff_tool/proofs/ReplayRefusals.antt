-- Of the same files one error tells why a replay refuses them, and none where they are replayed.
use Rattle.std.proofs.Common.{◌≡◌, ℕ, inl, inr, cond, List, Result, Ok, Err, sum_by, ◌∙◌, ap}
use Rattle.std.proofs.lemmas.Bool.{cases_lt, le-ltb, lt-ltb}
use Rattle.waff_parse.specs.Refusals.{◌>>=◌, told}
use Rattle.waff_model.specs.Layout.{Hierarchy, HasFewCells, Space}
use Rattle.waff_model.specs.Messages.{Arrivals}
use Rattle.waff_model.specs.Unique.{AtMostOne}
use Rattle.waff_model.specs.declared.limits.TheConstants.{MAX_CELLS}
use Rattle.waff_read.specs.Hierarchies.{hierarchy_of}
use Rattle.waff_inputs.specs.Inputs.{IsRefusal, RefusesHierarchy, TellsOfFiles, layout_of, trace_over}
use Rattle.waff_inputs.specs.declared.fault.ToolError.{ToolError}
use Rattle.waff_inputs.specs.declared.fault.ToolError.TheVariants as tool
use Rattle.waff_inputs.proofs.Refusals.{first_refuses, no_refusal, one_refusal, second_refuses}
use Rattle.waff_tool.specs.ReplayText.{RefusesReplay, of_few_cells, replayed_files}
use Rattle.waff_tool.specs.Unique.{ReplayedIsNotRefused}

-- what is read behind the hierarchy, and behind the look at its cells
abbrev then_trace : List ℕ → Hierarchy → Result (Hierarchy × Arrivals) ToolError
then_trace trace_file few = trace_over few trace_file >>= λ trace. Ok (few, trace)

abbrev then_few : List ℕ → Hierarchy → Result (Hierarchy × Arrivals) ToolError
then_few trace_file layout = of_few_cells layout >>= then_trace trace_file

is_few : (layout : Hierarchy) → HasFewCells layout.spaces → of_few_cells layout ≡ Ok layout
is_few layout few = ap (λ b. cond b (Err tool.TooManyCells) (Ok layout)) (le-ltb MAX_CELLS (sum_by (λ (s : Space). s.size) layout.spaces) few)

are_many : (layout : Hierarchy) → ¬ HasFewCells layout.spaces → of_few_cells layout ≡ Err tool.TooManyCells
are_many layout none = elim (cases_lt MAX_CELLS (sum_by (λ (s : Space). s.size) layout.spaces)) [
  | inl more ↦ ap (λ b. cond b (Err tool.TooManyCells) (Ok layout)) (lt-ltb MAX_CELLS (sum_by (λ (s : Space). s.size) layout.spaces) more)
  | inr few ↦ absurd (none few)
]

-- a replay refuses a hierarchy that is refused, one of many cells, and a trace that is refused over one of few
pub refuses_hierarchy : (hierarchy_file trace_file : List ℕ) (error : ToolError) → RefusesHierarchy 1 hierarchy_file error
    → RefusesReplay hierarchy_file trace_file error
refuses_hierarchy hierarchy_file trace_file = first_refuses (layout_of 1 hierarchy_file) (then_few trace_file)

behind_layout : (hierarchy_file trace_file : List ℕ) (layout : Hierarchy) (error : ToolError) → hierarchy_of hierarchy_file ≡ Ok layout
    → IsRefusal (then_few trace_file layout) error → RefusesReplay hierarchy_file trace_file error
behind_layout hierarchy_file trace_file layout error is =
    second_refuses (layout_of 1 hierarchy_file) (then_few trace_file) layout error (ap (told (tool.Hier 1)) is)

pub refuses_cells : (hierarchy_file trace_file : List ℕ) (layout : Hierarchy) → hierarchy_of hierarchy_file ≡ Ok layout
    → ¬ HasFewCells layout.spaces → RefusesReplay hierarchy_file trace_file tool.TooManyCells
refuses_cells hierarchy_file trace_file layout is none =
    behind_layout hierarchy_file trace_file layout tool.TooManyCells is
    (first_refuses (of_few_cells layout) (then_trace trace_file) tool.TooManyCells (inl (are_many layout none)))

pub refuses_trace : (hierarchy_file trace_file : List ℕ) (layout : Hierarchy) (error : ToolError) → hierarchy_of hierarchy_file ≡ Ok layout
    → HasFewCells layout.spaces → IsRefusal (trace_over layout trace_file) error → RefusesReplay hierarchy_file trace_file error
refuses_trace hierarchy_file trace_file layout error is few refused =
    behind_layout hierarchy_file trace_file layout error is
    (second_refuses (of_few_cells layout) (then_trace trace_file) layout error (is_few layout few)
    (first_refuses (trace_over layout trace_file) (λ trace. Ok (layout, trace)) error refused))

pub replay_refusal_is_one : (hierarchy_file trace_file : List ℕ) → AtMostOne (λ (e : ToolError). TellsOfFiles e × RefusesReplay hierarchy_file trace_file e)
replay_refusal_is_one hierarchy_file trace_file = one_refusal (replayed_files hierarchy_file trace_file)

pub replayed_is_not_refused : (hierarchy_file trace_file : List ℕ) → ReplayedIsNotRefused hierarchy_file trace_file
replayed_is_not_refused hierarchy_file trace_file text error replayed =
    no_refusal (replayed_files hierarchy_file trace_file) (replayed.layout, replayed.trace) error
    (ap (λ r. told (tool.Hier 1) r >>= then_few trace_file) replayed.is_layout
    ∙ ap (λ r. r >>= then_trace trace_file) (is_few replayed.layout replayed.few)
    ∙ ap (λ r. told tool.Trace r >>= λ (trace : Arrivals). Ok (replayed.layout, trace)) replayed.is_trace)
