-- What the bytes of a hierarchy and of a trace come to.
use Rattle.std.specs.Prelude.{◌≢◌, ℕ, List, Result, IfErr, IfOk}
use Rattle.waff_inputs.specs.Inputs.{Accepts, Refuses, instance_under}
use Rattle.waff_inputs.specs.declared.fault.ToolError.{ToolError}
use Rattle.waff_inputs.specs.declared.fault.ToolError.TheVariants as tool
use Rattle.waff_inputs.specs.declared.inputs.Accepted.{Accepted}

-- what the files are accepted as, or an error for which they are refused
pub record IsAccepted (hierarchy_file trace_file : List ℕ)
    (result : Result Accepted ToolError) : Type 0 where
  pub accepted : IfOk result (λ a. Accepts hierarchy_file trace_file (instance_under a.layout a.assigned a.trace))
  pub refused : IfErr result (Refuses hierarchy_file trace_file)
  pub nothing : IfErr result (λ e. e ≢ tool.Write)
