-- What an explanation of one to three files tells: the fault or the verdict that the other commands
-- tell of the same files.
use Rattle.std.specs.Prelude.{◌≡◌, ◌≢◌, ℕ, List, [], ◌∷◌, ◌++◌, Option, Some, None, Result, Ok, Err, codes}
use Rattle.waff_tool.specs.CheckText.{IsCheckText, checked_files, status_after, verdict_text}
use Rattle.waff_inputs.specs.Inputs.{files_of, layout_of}
use Rattle.waff_inputs.specs.Fault.{fault_line, status_of}
use Rattle.waff_explain.specs.Lines.{AreHeadedLines, IsHeadedLine}
use Rattle.waff_tool.specs.declared.explains.Explained.{Explained}
use Rattle.waff_tool.specs.declared.explains.Explained.TheVariants as explained
use Rattle.waff_inputs.specs.declared.fault.ToolError.{ToolError}
use Rattle.waff_inputs.specs.declared.fault.ToolError.TheVariants as tool

-- an error that tells nothing of the files
abbrev pub RefusesWork : ToolError → Type 0
RefusesWork tool.Memory = Unit {0}
RefusesWork tool.Write = Unit {0}
RefusesWork error = ⊥

-- what is explained of a reading of files: nothing where it succeeds, else its fault
abbrev pub Explains : {A : Type 0} → Result A ToolError → Explained → Type 0
Explains {A} read explained.Well = (a : A) × (read ≡ Ok a)
Explains read (explained.Fault error) = read ≡ Err error
Explains read (explained.Verdict v) = ⊥

-- what is explained of a plan: what a check of it tells
abbrev pub OfPlan : List ℕ → List ℕ → List ℕ → Explained → Type 0
OfPlan hierarchy_file trace_file plan_file explained.Well = ⊥
OfPlan hierarchy_file trace_file plan_file (explained.Fault error) =
    checked_files hierarchy_file trace_file plan_file ≡ Err error
OfPlan hierarchy_file trace_file plan_file (explained.Verdict v) =
    IsCheckText hierarchy_file trace_file plan_file v

-- what is explained of one to three files; a plan without a trace is not looked at
abbrev pub IsExplained : List ℕ → Option (List ℕ) → Option (List ℕ) → Explained → Type 0
IsExplained hierarchy_file None plan_file e = Explains (layout_of 1 hierarchy_file) e
IsExplained hierarchy_file (Some trace_file) None e = Explains (files_of hierarchy_file trace_file) e
IsExplained hierarchy_file (Some trace_file) (Some plan_file) e =
    OfPlan hierarchy_file trace_file plan_file e

-- the line that an explanation begins with: that of the fault or the verdict
abbrev pub first_line : Explained → List ℕ
first_line explained.Well = codes "nothing is wrong" ++ 10 ∷ []
first_line (explained.Fault error) = fault_line error ++ 10 ∷ []
first_line (explained.Verdict v) = verdict_text v

-- a text that is a line, and below it lines that each begin with one of the heads
pub record IsToldBelow (line text : List ℕ) : Type 0 where
  pub words : List ℕ
  pub headed : AreHeadedLines words
  pub whole : text ≡ line ++ words

-- the text of an explanation
pub record IsExplanation (hierarchy_file : List ℕ)
    (trace_file plan_file : Option (List ℕ)) (e : Explained) (text : List ℕ) : Type 0 where
  pub is_explained : IsExplained hierarchy_file trace_file plan_file e
  pub told : IsToldBelow (first_line e) text

-- no line with a head is a first line, so none is taken for a fault or a verdict
abbrev pub LinesAreNoFirstLines : Type 0
LinesAreNoFirstLines =
    (line : List ℕ) (e : Explained) → IsHeadedLine line → line ≢ first_line e

-- the exit status after an explanation: that of the fault or the verdict
abbrev pub status_explained : Explained → ℕ
status_explained explained.Well = 0
status_explained (explained.Fault error) = status_of error
status_explained (explained.Verdict v) = status_after v
