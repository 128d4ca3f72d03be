-- The errors of the readers, as errors of a command: an allocation failure is the same in all of them.
use Rattle.std.specs.Prelude.{ℕ}
use Rattle.waff_read.specs.declared.hier_error.HierError.{HierError}
use Rattle.waff_read.specs.declared.hier_error.HierError.TheVariants as hier
use Rattle.waff_read.specs.declared.trace_fault.TraceError.{TraceError}
use Rattle.waff_read.specs.declared.trace_fault.TraceError.TheVariants as trace
use Rattle.waff_plan_text.specs.declared.refusal.PlanTextError.{PlanTextError}
use Rattle.waff_plan_text.specs.declared.refusal.PlanTextError.TheVariants as text
use Rattle.waff_inputs.specs.declared.fault.ToolError.{ToolError}
use Rattle.waff_inputs.specs.declared.fault.ToolError.TheVariants as tool

abbrev pub hierarchy_error : ℕ → HierError → ToolError
hierarchy_error file hier.Memory = tool.Memory
hierarchy_error file fault = tool.Hier file fault

abbrev pub trace_error : TraceError → ToolError
trace_error trace.Memory = tool.Memory
trace_error fault = tool.Trace fault

abbrev pub plan_text_error : PlanTextError → ToolError
plan_text_error text.Memory = tool.Memory
plan_text_error fault = tool.PlanText fault
