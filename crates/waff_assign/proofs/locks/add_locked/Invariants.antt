use Rattle.std.proofs.Common.{take}
use Rattle.waff_model.specs.Cells.{cells_of}
use Rattle.waff_assign.specs.Uses.{Adds, locked_cells}
use Rattle.waff_assign.proofs.locks.add_locked.Given as goal

abbrev pub invariant-loop-index : goal.invariant-loop-index
invariant-loop-index l = Adds l.initial.cells.items l.cells.items (locked_cells l.layout.spaces (cells_of (take l.index l.ops)))
