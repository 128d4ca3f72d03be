use Rattle.waff_core.proofs.Arrival.{cells_are_serial, each_cell_is_serial}
use Rattle.waff_core.proofs.laws.cells_are_serial.Goals as goal

pub returns-clause-parcels : goal.returns-clause-parcels
returns-clause-parcels c = cells_are_serial

pub returns-clause-cells : goal.returns-clause-cells
returns-clause-cells c = each_cell_is_serial
