use Rattle.waff_cells.specs.Held.{rows_of}
use Rattle.waff_cells.proofs.Gathers.{AreRows}
use Rattle.waff_cells.proofs.state.State.of_parcels.Given as goal

abbrev pub invariant-loop-s : goal.invariant-loop-s
invariant-loop-s l = AreRows l.table.spaces (rows_of l.parcels) l.s (rows_of l.rows.items)
