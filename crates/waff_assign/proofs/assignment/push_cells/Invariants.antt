use Rattle.std.proofs.Common.{◌≡◌, ◌++◌, take}
use Rattle.waff_model.specs.Cells.{cells_of}
use Rattle.waff_assign.proofs.assignment.push_cells.Given as goal

abbrev pub invariant-loop-index : goal.invariant-loop-index
invariant-loop-index l = l.cells.items ≡ l.initial.cells.items ++ cells_of (take l.index l.ops)
