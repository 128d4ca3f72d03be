use Rattle.std.proofs.Common.{◌≡◌, ◌++◌, List, Some, string_bytes}
use Rattle.waff_model.specs.Layout.{Space, name_at, size_at}
use Rattle.waff_cells.specs.Grid.{cells_in}
use Rattle.waff_plan_text.specs.Lines.{text_of}
use Rattle.waff_cells.specs.InOrder.{cells_below}
use Rattle.waff_tool.specs.ReplayText.{cell_lines}
use Rattle.waff_tool.proofs.state_text.push_space.Given as goal

abbrev pub invariant-loop-index : goal.invariant-loop-index
invariant-loop-index l =
    (spaces : List Space) → name_at spaces l.s ≡ Some l.printed.name → size_at spaces l.s ≡ l.printed.size
    → string_bytes l.text ≡ string_bytes l.initial.text ++ text_of (cell_lines spaces (cells_in l.state) (cells_below l.s l.index))
