use Rattle.std.proofs.Common.{◌≡◌, length}
use Rattle.waff_tool.specs.PrintedSpaces.{ArePrinted}
use Rattle.waff_tool.proofs.state_text.printed_spaces.Given as goal

abbrev pub invariant-loop-s : goal.invariant-loop-s
invariant-loop-s l = record {
  count : length l.printed.items ≡ l.s;
  printed : ArePrinted l.layout.spaces l.printed.items;
}
