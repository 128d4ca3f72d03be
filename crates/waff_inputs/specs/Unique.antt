-- No error tells why files are refused that are accepted.
use Rattle.std.specs.Prelude.{ℕ, List}
use Rattle.waff_assign.specs.Instance.{Instance}
use Rattle.waff_inputs.specs.Inputs.{Accepts, Refuses, TellsOfFiles}
use Rattle.waff_inputs.specs.declared.fault.ToolError.{ToolError}

-- no error tells why a hierarchy and a trace are refused that are accepted
abbrev pub AcceptedIsNotRefused : List ℕ → List ℕ → Type 0
AcceptedIsNotRefused hierarchy_file trace_file =
    (instance : Instance) (error : ToolError) → Accepts hierarchy_file trace_file instance
    → TellsOfFiles error → ¬ Refuses hierarchy_file trace_file error
