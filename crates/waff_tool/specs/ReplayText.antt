-- What a replay prints: a header, and a line for each cell whose number is not 0.
use Rattle.std.specs.Prelude.{◌≡◌, ℕ, ◌==◌, Bool, not, nat_lt, sum_by, List, [], ◌∷◌, Result, Ok, Err}
use Rattle.std.specs.Prelude.{decimal, length, map, codes, if◌then◌else◌}
use Rattle.waff_parse.specs.Refusals.{◌>>=◌}
use Rattle.std.specs.List.{filter}
use Rattle.waff_model.specs.Layout.{Hierarchy, HasFewCells, Space}
use Rattle.waff_model.specs.Messages.{Arrivals}
use Rattle.waff_model.specs.declared.cell.Cell.{Cell}
use Rattle.waff_model.specs.declared.limits.TheConstants.{MAX_CELLS}
use Rattle.waff_read.specs.Hierarchies.{hierarchy_of}
use Rattle.waff_read.specs.Spellings.{cell_spelled}
use Rattle.waff_inputs.specs.Known.{trace_of}
use Rattle.waff_cells.specs.InOrder.{all_cells}
use Rattle.waff_cells.specs.Meaning.{Cells}
use Rattle.waff_cells.specs.Serial.{operations, serial}
use Rattle.waff_plan_text.specs.Lines.{text_of}
use Rattle.waff_inputs.specs.Inputs.{IsRefusal, layout_of, trace_over}
use Rattle.waff_inputs.specs.declared.fault.ToolError.{ToolError}
use Rattle.waff_inputs.specs.declared.fault.ToolError.TheVariants as tool

-- the header
abbrev pub state_header : List (List ℕ)
state_header = codes "cell" ∷ codes "value" ∷ []

-- a cell is told of where its number is not 0
abbrev pub is_told : Cells → Cell → Bool
is_told cells cell = not (cells cell == 0)

-- the line of a cell: the cell as a trace spells it, and its number
abbrev pub cell_line : List Space → Cells → Cell → List (List ℕ)
cell_line spaces cells cell = cell_spelled spaces cell ∷ decimal (cells cell) ∷ []

-- the lines of some cells
abbrev pub cell_lines : List Space → Cells → List Cell → List (List (List ℕ))
cell_lines spaces cells some = map (cell_line spaces cells) (filter (is_told cells) some)

-- the lines of a state
abbrev pub state_lines : List Space → Cells → List (List (List ℕ))
state_lines spaces cells = state_header ∷ cell_lines spaces cells (all_cells spaces)

-- the state that the messages of a trace leave in the order of arrival
abbrev pub state_after : Arrivals → Cells
state_after trace = serial (operations trace.messages) (length trace.messages)

-- the text of the state that a trace leaves under a hierarchy of few cells: that of arrival order,
-- after all messages
pub record IsReplayText (hierarchy_file trace_file text : List ℕ) : Type 0 where
  pub layout : Hierarchy
  pub trace : Arrivals
  pub is_layout : hierarchy_of hierarchy_file ≡ Ok layout
  pub few : HasFewCells layout.spaces
  pub is_trace : trace_of layout.spaces trace_file ≡ Ok trace
  pub lines : text ≡ text_of (state_lines layout.spaces (state_after trace))

-- a hierarchy of so few cells that a replay keeps them
abbrev pub of_few_cells : Hierarchy → Result Hierarchy ToolError
of_few_cells layout =
    if nat_lt MAX_CELLS (sum_by (λ space. space.size) layout.spaces) then Err tool.TooManyCells
    else Ok layout

-- what the bytes of a hierarchy and of a trace over it are read as for a replay, which looks how many cells
-- there are before it reads the trace
abbrev pub replayed_files : List ℕ → List ℕ → Result (Hierarchy × Arrivals) ToolError
replayed_files hierarchy_file trace_file = do
  layout ← layout_of 1 hierarchy_file
  few ← of_few_cells layout
  trace ← trace_over few trace_file
  Ok (few, trace)

-- an error tells why a replay refuses the files
abbrev pub RefusesReplay : List ℕ → List ℕ → ToolError → Type 0
RefusesReplay hierarchy_file trace_file = IsRefusal (replayed_files hierarchy_file trace_file)
