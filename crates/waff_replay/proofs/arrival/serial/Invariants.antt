use Rattle.std.proofs.Common.{◌≡◌, ◌-◌}
use Rattle.waff_model.specs.Messages.{sizes_of}
use Rattle.waff_model.specs.declared.cell.Cell.{Cell}
use Rattle.waff_cells.specs.Grid.{cells_in, HasSizes}
use Rattle.waff_cells.specs.Serial.{operations, serial}
use Rattle.waff_replay.proofs.arrival.serial.Given as goal

abbrev pub invariant-loop-n : goal.invariant-loop-n
invariant-loop-n l = record {
  sizes : HasSizes l.state (sizes_of l.layout.spaces);
  cells : (cell : Cell) → cells_in l.state cell ≡ serial (operations l.trace.messages) (l.n - 1) cell;
}
