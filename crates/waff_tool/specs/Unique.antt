-- Of the same files there is a text or a verdict, or an error that tells why they are refused.
use Rattle.std.specs.Prelude.{ℕ, List}
use Rattle.waff_inputs.specs.Inputs.{TellsOfFiles}
use Rattle.waff_inputs.specs.declared.fault.ToolError.{ToolError}
use Rattle.waff_tool.specs.Comparison.{IsCompareText, RefusesComparison}
use Rattle.waff_check.specs.declared.verdict.Verdict.{Verdict}
use Rattle.waff_tool.specs.CheckText.{IsCheckText, RefusesCheck}
use Rattle.waff_tool.specs.ReplayText.{IsReplayText, RefusesReplay}

-- files that are compared are refused for no error that tells of them
abbrev pub ComparedIsNotRefused : List ℕ → List ℕ → List ℕ → Type 0
ComparedIsNotRefused first_file second_file trace_file =
    (k : ℕ) (text : List ℕ) (error : ToolError)
    → IsCompareText first_file second_file trace_file k text
    → TellsOfFiles error → ¬ RefusesComparison first_file second_file trace_file error

-- files on which there is a verdict are refused for no error that tells of them
abbrev pub CheckedIsNotRefused : List ℕ → List ℕ → List ℕ → Type 0
CheckedIsNotRefused hierarchy_file trace_file plan_file =
    (v : Verdict) (error : ToolError) → IsCheckText hierarchy_file trace_file plan_file v
    → TellsOfFiles error → ¬ RefusesCheck hierarchy_file trace_file plan_file error

-- files that are replayed are refused for no error that tells of them
abbrev pub ReplayedIsNotRefused : List ℕ → List ℕ → Type 0
ReplayedIsNotRefused hierarchy_file trace_file =
    (text : List ℕ) (error : ToolError) → IsReplayText hierarchy_file trace_file text
    → TellsOfFiles error → ¬ RefusesReplay hierarchy_file trace_file error
