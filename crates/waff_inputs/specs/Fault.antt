-- What the program says of an error: the names of its variants from the outside in, and then its
-- numbers and keys.
use Rattle.std.specs.Prelude.{ℕ, List, [], ◌∷◌, ◌++◌, codes, decimal}
use Rattle.waff_model.specs.declared.layout_rows.LayoutError.{LayoutError}
use Rattle.waff_model.specs.declared.layout_rows.LayoutError.TheVariants as layout
use Rattle.waff_model.specs.declared.tree.TreeError.{TreeError}
use Rattle.waff_model.specs.declared.tree.TreeError.TheVariants as tree
use Rattle.waff_read.specs.declared.hier_error.HierError.{HierError}
use Rattle.waff_read.specs.declared.hier_error.HierError.TheVariants as hier
use Rattle.waff_read.specs.declared.hier_error.Key.{Key}
use Rattle.waff_read.specs.declared.hier_error.Key.TheVariants as key
use Rattle.waff_read.specs.declared.trace_fault.TraceError.{TraceError}
use Rattle.waff_read.specs.declared.trace_fault.TraceError.TheVariants as trace
use Rattle.waff_plan_text.specs.declared.refusal.PlanTextError.{PlanTextError}
use Rattle.waff_plan_text.specs.declared.refusal.PlanTextError.TheVariants as text
use Rattle.waff_inputs.specs.declared.fault.ToolError.{ToolError}
use Rattle.waff_inputs.specs.declared.fault.ToolError.TheVariants as tool

abbrev pub key_name : Key → List ℕ
key_name key.Affinities = codes "Affinities"
key_name key.Spaces = codes "Spaces"
key_name key.Maps = codes "Maps"
key_name key.Name = codes "Name"
key_name key.Parent = codes "Parent"
key_name key.Size = codes "Size"
key_name key.Space = codes "Space"
key_name key.Unit = codes "Unit"
key_name key.To = codes "To"
key_name key.Locks = codes "Locks"

abbrev pub tree_error_name : TreeError → List ℕ
tree_error_name tree.Name = codes "Name"
tree_error_name tree.Twice = codes "Twice"
tree_error_name tree.SecondRoot = codes "SecondRoot"
tree_error_name tree.NoRoot = codes "NoRoot"
tree_error_name tree.ParentUnknown = codes "ParentUnknown"
tree_error_name tree.TooMany = codes "TooMany"
tree_error_name tree.Memory = codes "Memory"

abbrev pub layout_error_name : LayoutError → List ℕ
layout_error_name layout.Space = codes "Space"
layout_error_name layout.Size = codes "Size"
layout_error_name layout.SpaceTwice = codes "SpaceTwice"
layout_error_name layout.NoMap = codes "NoMap"
layout_error_name layout.MapTwice = codes "MapTwice"
layout_error_name layout.Unit = codes "Unit"
layout_error_name layout.To = codes "To"
layout_error_name layout.TooManyCells = codes "TooManyCells"
layout_error_name layout.Memory = codes "Memory"

-- a space, and a number
abbrev pub and_number : ℕ → List ℕ
and_number n = 32 ∷ decimal n

-- what is said of the hierarchy of this file
abbrev pub hierarchy_fault : ℕ → HierError → List ℕ
hierarchy_fault file hier.Toml = codes "Toml" ++ and_number file
hierarchy_fault file hier.Model = codes "Model" ++ and_number file
hierarchy_fault file (hier.Shape key) = codes "Shape" ++ and_number file ++ 32 ∷ key_name key
hierarchy_fault file (hier.Tree error) = codes "Tree." ++ tree_error_name error ++ and_number file
hierarchy_fault file (hier.NotClassical affinity) =
    codes "NotClassical" ++ and_number file ++ and_number affinity.0
hierarchy_fault file (hier.Layout error) =
    codes "Layout." ++ layout_error_name error ++ and_number file
hierarchy_fault file hier.Memory = codes "Memory" ++ and_number file

-- what is said of the trace
abbrev pub trace_fault : TraceError → List ℕ
trace_fault (trace.Csv at) = codes "Csv" ++ and_number at
trace_fault (trace.Header at) = codes "Header" ++ and_number at
trace_fault (trace.Fields at) = codes "Fields" ++ and_number at
trace_fault (trace.Name at) = codes "Name" ++ and_number at
trace_fault (trace.Cost at) = codes "Cost" ++ and_number at
trace_fault (trace.NoOps at) = codes "NoOps" ++ and_number at
trace_fault (trace.Op at) = codes "Op" ++ and_number at
trace_fault (trace.SpaceUnknown at) = codes "SpaceUnknown" ++ and_number at
trace_fault (trace.IndexTooLarge at) = codes "IndexTooLarge" ++ and_number at
trace_fault (trace.TooManyOps at) = codes "TooManyOps" ++ and_number at
trace_fault (trace.TooManyMessages at) = codes "TooManyMessages" ++ and_number at
trace_fault trace.Memory = codes "Memory"
trace_fault (trace.Release at) = codes "Release" ++ and_number at
trace_fault (trace.Client at) = codes "Client" ++ and_number at
trace_fault (trace.Think at) = codes "Think" ++ and_number at
trace_fault (trace.After at) = codes "After" ++ and_number at
trace_fault (trace.TooManyAfter at) = codes "TooManyAfter" ++ and_number at

-- what is said of the text of a plan
abbrev pub plan_text_fault : PlanTextError → List ℕ
plan_text_fault (text.Csv at) = codes "Csv" ++ and_number at
plan_text_fault (text.Header at) = codes "Header" ++ and_number at
plan_text_fault (text.Row at) = codes "Row" ++ and_number at
plan_text_fault (text.Missing message) = codes "Missing" ++ and_number message
plan_text_fault (text.Twice at) = codes "Twice" ++ and_number at
plan_text_fault (text.Summary at) = codes "Summary" ++ and_number at
plan_text_fault (text.TooLarge at) = codes "TooLarge" ++ and_number at
plan_text_fault text.Memory = codes "Memory"

-- the line that tells of an error
abbrev pub fault_line : ToolError → List ℕ
fault_line (tool.Hier file fault) = codes "waff: Hier." ++ hierarchy_fault file fault
fault_line (tool.Trace fault) = codes "waff: Trace." ++ trace_fault fault
fault_line (tool.PlanText fault) = codes "waff: PlanText." ++ plan_text_fault fault
fault_line tool.SpacesDiffer = codes "waff: SpacesDiffer"
fault_line tool.ModelsSame = codes "waff: ModelsSame"
fault_line tool.Write = codes "waff: Write"
fault_line tool.Memory = codes "waff: Memory"
fault_line tool.TooManyCells = codes "waff: TooManyCells"

-- that line with its line feed
abbrev pub fault_message : ToolError → List ℕ
fault_message error = fault_line error ++ 10 ∷ []

-- the exit status: 3 where the files are refused, 4 where a text could not be written or memory was
-- refused
abbrev pub status_of : ToolError → ℕ
status_of (tool.Hier file fault) = 3
status_of (tool.Trace fault) = 3
status_of (tool.PlanText fault) = 3
status_of tool.SpacesDiffer = 3
status_of tool.ModelsSame = 3
status_of tool.Write = 4
status_of tool.Memory = 4
status_of tool.TooManyCells = 3
