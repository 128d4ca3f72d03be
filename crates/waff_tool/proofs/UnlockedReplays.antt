-- Over the layout without locks the same trace is read, and the same state told.
use Rattle.std.proofs.Common.{◌≡◌, ℕ, List, [], ◌∷◌, length, map, flat_map, Option, Some, None, decimal, Result, Ok, refl, ap, ◌∙◌, sym, subst, arith, sum, sum_by}
use Rattle.std.proofs.Math.Path.{fun_ext}
use Rattle.std.proofs.lemmas.List.{length-map}
use Rattle.std.proofs.lemmas.List.Sums.{sum-map}
use Rattle.std.proofs.lemmas.Option.{slice_get-map}
use Rattle.std.specs.List.{filter, range_with_len}
use Rattle.std.specs.Prelude.{option_map, slice_get, unwrap_or}
use Rattle.waff_model.specs.Layout.{HasFewCells, Hierarchy, SameSpaces, Space, name_at, size_at, unlocked, unlocked_space}
use Rattle.waff_model.specs.Messages.{Arrivals}
use Rattle.waff_model.specs.declared.cell.Cell.{Cell}
use Rattle.waff_model.proofs.Unlocking.{names_unlocked, size_unlocked, sizes_unlocked}
use Rattle.waff_read.specs.Spellings.{cell_spelled}
use Rattle.waff_cells.specs.InOrder.{all_cells, cells_below}
use Rattle.waff_cells.specs.Meaning.{Cells}
use Rattle.waff_inputs.specs.Known.{newest, trace_of}
use Rattle.waff_parse.specs.Refusals.{told}
use Rattle.waff_read.specs.Hierarchies.{hierarchy_of}
use Rattle.waff_read.specs.declared.trace_fault.TraceError.{TraceError}
use Rattle.waff_inputs.specs.Inputs.{IsRefusal, trace_over}
use Rattle.waff_inputs.specs.declared.fault.ToolError.{ToolError}
use Rattle.waff_inputs.specs.declared.fault.ToolError.TheVariants as tool
use Rattle.waff_tool.specs.ReplayText.{RefusesReplay, cell_lines, is_told, state_header, state_lines}
use Rattle.waff_tool.proofs.ReplayRefusals.{refuses_trace}
use Rattle.waff_tool.proofs.ReadAlike.{read_alike}

pub trace_unlocked : (layout : Hierarchy) (file : List ℕ) → trace_of (unlocked layout).spaces file ≡ trace_of layout.spaces file
trace_unlocked layout file =
    let same : SameSpaces (map unlocked_space layout.spaces) layout.spaces = record { names = names_unlocked layout.spaces; sizes = sizes_unlocked layout.spaces } in
    read_alike newest (map unlocked_space layout.spaces) layout.spaces file same

name_unlocked : (spaces : List Space) (s : ℕ) → name_at (map unlocked_space spaces) s ≡ name_at spaces s
name_unlocked spaces s = rw (slice_get-map unlocked_space spaces s) (by (slice_get spaces s))
  where
    by : (o : Option Space) → option_map (λ (space : Space). space.name) (option_map unlocked_space o) ≡ option_map (λ (space : Space). space.name) o
    by None = refl
    by (Some space) = refl

pub few_locked : (layout : Hierarchy) → HasFewCells (unlocked layout).spaces → HasFewCells layout.spaces
few_locked layout few =
    let size : Space → ℕ = λ space. space.size in
    let same : sum_by size (map unlocked_space layout.spaces) ≡ sum_by size layout.spaces
    = sym (sum-map size (map unlocked_space layout.spaces)) ∙ ap sum (sizes_unlocked layout.spaces) ∙ sum-map size layout.spaces in
    omega (arith, few)

-- the cells are told by the names and the sizes of their spaces alone
abbrev cells_by : (ℕ → ℕ) → ℕ → List Cell
cells_by size count = flat_map (λ s. cells_below s (size s)) (range_with_len 0 count)

cells_unlocked : (spaces : List Space) → all_cells (map unlocked_space spaces) ≡ all_cells spaces
cells_unlocked spaces =
    ap (λ size. cells_by size (length (map unlocked_space spaces))) (fun_ext (size_unlocked spaces)) ∙ ap (cells_by (size_at spaces)) (length-map spaces unlocked_space)

spelled_unlocked : (spaces : List Space) (cell : Cell) → cell_spelled (map unlocked_space spaces) cell ≡ cell_spelled spaces cell
spelled_unlocked spaces cell = rw (name_unlocked spaces cell.space) refl

pub lines_unlocked : (layout : Hierarchy) (cells : Cells) → state_lines (unlocked layout).spaces cells ≡ state_lines layout.spaces cells
lines_unlocked layout cells =
    ap (λ spelled. state_header ∷ map (λ cell. spelled cell ∷ decimal (cells cell) ∷ []) (filter (is_told cells) (all_cells (map unlocked_space layout.spaces))))
    (fun_ext (spelled_unlocked layout.spaces))
    ∙ ap (λ all. state_header ∷ cell_lines layout.spaces cells all) (cells_unlocked layout.spaces)

-- a trace that is refused over the layout without locks is refused
pub refuses_unlocked : (hierarchy_file trace_file : List ℕ) (layout : Hierarchy) (error : ToolError) → hierarchy_of hierarchy_file ≡ Ok layout
    → HasFewCells layout.spaces → IsRefusal (trace_over (unlocked layout) trace_file) error → RefusesReplay hierarchy_file trace_file error
refuses_unlocked hierarchy_file trace_file layout error is few refused =
    refuses_trace hierarchy_file trace_file layout error is few
    (subst (λ (r : Result Arrivals TraceError). IsRefusal (told tool.Trace r) error) (trace_unlocked layout trace_file) refused)
