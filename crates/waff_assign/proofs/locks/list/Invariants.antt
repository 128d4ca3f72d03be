use Rattle.std.proofs.Common.{◌-◌, []}
use Rattle.waff_assign.specs.Uses.{Adds, locked_cells_between}
use Rattle.waff_assign.proofs.locks.list.Given as goal

abbrev pub invariant-loop-n : goal.invariant-loop-n
invariant-loop-n l = Adds [] l.cells.items (locked_cells_between l.layout.spaces l.trace.messages l.before (l.n - 1))
