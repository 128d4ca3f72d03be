-- Of the same files one error tells why a check refuses them, and none where there is a verdict.
use Rattle.std.proofs.Common.{◌≡◌, ℕ, inl, inr, List, Result, Ok, refl, ◌∙◌, ap, length}
use Rattle.waff_parse.specs.Refusals.{◌>>=◌, told}
use Rattle.waff_model.specs.Layout.{Hierarchy}
use Rattle.waff_model.specs.Messages.{Arrivals}
use Rattle.waff_model.specs.Unique.{AtMostOne}
use Rattle.waff_assign.specs.Instance.{Instance}
use Rattle.waff_plan_text.specs.Given.{Given}
use Rattle.waff_plan_text.specs.PlanTexts.{Tells, plan_of}
use Rattle.waff_plan_text.specs.declared.refusal.PlanTextError.{PlanTextError}
use Rattle.waff_plan_text.specs.declared.refusal.PlanTextError.TheVariants as text
use Rattle.waff_inputs.specs.Inputs.{Accepts, Refuses, TellsOfFiles, files_of}
use Rattle.waff_inputs.specs.ToolErrors.{plan_text_error}
use Rattle.waff_inputs.specs.declared.fault.ToolError.{ToolError}
use Rattle.waff_inputs.specs.declared.fault.ToolError.TheVariants as tool
use Rattle.waff_inputs.proofs.Refusals.{files_read, first_refuses, no_refusal, one_refusal, second_refuses}
use Rattle.waff_tool.specs.CheckText.{AcceptsPlan, RefusesCheck, checked_files, given_for}
use Rattle.waff_tool.specs.Unique.{CheckedIsNotRefused}

-- the text of a plan is read behind the other files
abbrev pub then_given : List ℕ → Hierarchy × Arrivals → Result (Arrivals × Given) ToolError
then_given plan_file files = given_for files.1 plan_file >>= λ given. Ok (files.1, given)

-- a check refuses files that are refused, and the text of a plan for files that are accepted
pub files_refuse : (hierarchy_file trace_file plan_file : List ℕ) (error : ToolError) → Refuses hierarchy_file trace_file error
    → RefusesCheck hierarchy_file trace_file plan_file error
files_refuse hierarchy_file trace_file plan_file = first_refuses (files_of hierarchy_file trace_file) (then_given plan_file)

pub plan_refuses : (hierarchy_file trace_file plan_file : List ℕ) (instance : Instance) (fault : PlanTextError)
    → Accepts hierarchy_file trace_file instance
    → Tells fault (plan_of instance.trace.version (length instance.trace.messages) plan_file)
    → RefusesCheck hierarchy_file trace_file plan_file (plan_text_error fault)
plan_refuses hierarchy_file trace_file plan_file instance text.Memory accepts tells = inr (inl refl)
plan_refuses hierarchy_file trace_file plan_file instance fault accepts tells =
    second_refuses (files_of hierarchy_file trace_file) (then_given plan_file) (accepts.layout, instance.trace) (tool.PlanText fault)
    (files_read hierarchy_file trace_file instance accepts)
    (first_refuses (given_for instance.trace plan_file) (λ given. Ok (instance.trace, given)) (tool.PlanText fault)
    (inl (ap (told tool.PlanText) tells)))

pub check_refusal_is_one : (hierarchy_file trace_file plan_file : List ℕ) → AtMostOne (λ (e : ToolError). TellsOfFiles e × RefusesCheck hierarchy_file trace_file plan_file e)
check_refusal_is_one hierarchy_file trace_file plan_file = one_refusal (checked_files hierarchy_file trace_file plan_file)

-- files whose plan is read, which are not refused
pub checked_is_read : (hierarchy_file trace_file plan_file : List ℕ) (instance : Instance) (given : Given)
    → AcceptsPlan hierarchy_file trace_file plan_file instance given → checked_files hierarchy_file trace_file plan_file ≡ Ok (instance.trace, given)
checked_is_read hierarchy_file trace_file plan_file instance given accepts =
    ap (λ r. r >>= then_given plan_file) (files_read hierarchy_file trace_file instance accepts.accepts)
    ∙ ap (λ r. told tool.PlanText r >>= λ (g : Given). Ok (instance.trace, g)) accepts.is_plan

pub accepted_plan_is_not_refused : (hierarchy_file trace_file plan_file : List ℕ) (instance : Instance) (given : Given) (error : ToolError)
    → AcceptsPlan hierarchy_file trace_file plan_file instance given → TellsOfFiles error → ¬ RefusesCheck hierarchy_file trace_file plan_file error
accepted_plan_is_not_refused hierarchy_file trace_file plan_file instance given error accepts =
    no_refusal (checked_files hierarchy_file trace_file plan_file) (instance.trace, given) error
    (checked_is_read hierarchy_file trace_file plan_file instance given accepts)

pub checked_is_not_refused : (hierarchy_file trace_file plan_file : List ℕ) → CheckedIsNotRefused hierarchy_file trace_file plan_file
checked_is_not_refused hierarchy_file trace_file plan_file v error checked tells =
    accepted_plan_is_not_refused hierarchy_file trace_file plan_file checked.instance checked.given error checked.accepts tells
