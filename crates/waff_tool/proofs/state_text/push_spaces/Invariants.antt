use Rattle.std.proofs.Common.{◌≡◌, ◌++◌, List, string_bytes}
use Rattle.waff_model.specs.Layout.{Space}
use Rattle.waff_cells.specs.Grid.{cells_in}
use Rattle.waff_plan_text.specs.Lines.{text_of}
use Rattle.waff_tool.specs.PrintedSpaces.{AreAllPrinted}
use Rattle.waff_cells.specs.InOrder.{cells_of_first}
use Rattle.waff_tool.specs.ReplayText.{cell_lines}
use Rattle.waff_tool.proofs.state_text.push_spaces.Given as goal

abbrev pub invariant-loop-s : goal.invariant-loop-s
invariant-loop-s l =
    (spaces : List Space) → AreAllPrinted spaces l.printed
    → string_bytes l.text ≡ string_bytes l.initial.text ++ text_of (cell_lines spaces (cells_in l.state) (cells_of_first spaces l.s))
