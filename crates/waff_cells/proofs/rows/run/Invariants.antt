use Rattle.std.proofs.Common.{◌≡◌, length, map, take}
use Rattle.waff_cells.specs.Grid.{HasSizes}
use Rattle.waff_cells.specs.Held.{rows_of}
use Rattle.waff_cells.specs.RowEffects.{row_meaning}
use Rattle.waff_cells.proofs.rows.run.Given as goal

abbrev pub invariant-loop-at : goal.invariant-loop-at
invariant-loop-at g l = record {
  sizes : HasSizes (rows_of l.rows) (map length (rows_of l.initial.rows));
  rows : rows_of l.rows ≡ row_meaning (g.A.Addresses.at l.addresses) (take l.at l.ops) (rows_of l.initial.rows);
}
