-- What a check of a plan text finds and prints.
use Rattle.std.specs.Prelude.{◌≡◌, ℕ, List, [], ◌∷◌, length, Result, Ok, codes, decimal}
use Rattle.waff_parse.specs.Refusals.{◌>>=◌, told}
use Rattle.waff_model.specs.Messages.{Arrivals}
use Rattle.waff_assign.specs.Instance.{Instance}
use Rattle.waff_plan_text.specs.Given.{Given}
use Rattle.waff_plan_text.specs.PlanTexts.{plan_of}
use Rattle.waff_check.specs.Promises.{Promises}
use Rattle.waff_check.specs.Verdicts.{IsVerdict, claim_of}
use Rattle.waff_check.specs.declared.verdict.Verdict.{Verdict}
use Rattle.waff_check.specs.declared.verdict.Verdict.TheVariants as verdict
use Rattle.waff_inputs.specs.Inputs.{Accepts, IsRefusal, files_of}
use Rattle.waff_plan_text.specs.Lines.{line_text}
use Rattle.waff_inputs.specs.declared.fault.ToolError.{ToolError}
use Rattle.waff_inputs.specs.declared.fault.ToolError.TheVariants as tool

-- the line of a verdict: its name, and the messages, the tick or the place that it tells
abbrev pub verdict_fields : Verdict → List (List ℕ)
verdict_fields (verdict.Overlap first second) =
    codes "overlap" ∷ decimal first ∷ decimal second ∷ []
verdict_fields (verdict.TooManyAt tick) = codes "toomany" ∷ decimal tick ∷ []
verdict_fields (verdict.Worker message) = codes "worker" ∷ decimal message ∷ []
verdict_fields (verdict.Affinity message) = codes "affinity" ∷ decimal message ∷ []
verdict_fields (verdict.Finish message) = codes "finish" ∷ decimal message ∷ []
verdict_fields verdict.Totals = codes "totals" ∷ []
verdict_fields (verdict.NotAChain place) = codes "notachain" ∷ decimal place ∷ []
verdict_fields verdict.Obeys = codes "obeys" ∷ []
verdict_fields verdict.Shortest = codes "shortest" ∷ []
verdict_fields verdict.WithinBound = codes "withinbound" ∷ []
verdict_fields (verdict.Early message) = codes "early" ∷ decimal message ∷ []
verdict_fields (verdict.Client message) = codes "client" ∷ decimal message ∷ []
verdict_fields verdict.Tight = codes "tight" ∷ []
verdict_fields (verdict.After message awaited) =
    codes "after" ∷ decimal message ∷ decimal awaited ∷ []

-- the text of a verdict is its line alone
abbrev pub verdict_text : Verdict → List ℕ
verdict_text v = line_text (verdict_fields v)

-- the exit status: 0 where the verdict tells no fault of the plan, else 1
abbrev pub status_after : Verdict → ℕ
status_after verdict.Obeys = 0
status_after verdict.Shortest = 0
status_after verdict.Tight = 0
status_after verdict.WithinBound = 0
status_after _ = 1

-- bytes that are a hierarchy, a trace over it and the text of a plan for its messages
pub record AcceptsPlan (hierarchy_file trace_file plan_file : List ℕ) (instance : Instance)
    (given : Given) : Type 0 where
  pub accepts : Accepts hierarchy_file trace_file instance
  pub is_plan : plan_of instance.trace.version (length instance.trace.messages) plan_file
      ≡ Ok given

-- the verdict on the plan of a text, and what the verdict implies
pub record IsCheckText (hierarchy_file trace_file plan_file : List ℕ) (v : Verdict) : Type 0 where
  pub instance : Instance
  pub given : Given
  pub accepts : AcceptsPlan hierarchy_file trace_file plan_file instance given
  pub verdict : IsVerdict (claim_of instance given) v
  pub promises : Promises (claim_of instance given) v

-- what bytes are read as, as the text of a plan for a trace
abbrev pub given_for : Arrivals → List ℕ → Result Given ToolError
given_for trace plan_file =
    told tool.PlanText (plan_of trace.version (length trace.messages) plan_file)

-- what the bytes of a hierarchy, of a trace over it and of the text of a plan for it are read as, in this
-- order
abbrev pub checked_files : List ℕ → List ℕ → List ℕ → Result (Arrivals × Given) ToolError
checked_files hierarchy_file trace_file plan_file = do
  files ← files_of hierarchy_file trace_file
  given ← given_for files.1 plan_file
  Ok (files.1, given)

-- an error tells the first file that is refused, and why
abbrev pub RefusesCheck : List ℕ → List ℕ → List ℕ → ToolError → Type 0
RefusesCheck hierarchy_file trace_file plan_file =
    IsRefusal (checked_files hierarchy_file trace_file plan_file)
