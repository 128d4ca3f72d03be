use Rattle.waff_cells.proofs.Holdings.{parcels_are_one}
use Rattle.waff_cells.proofs.laws.parcel_is_one.Goals as goal

pub returns : goal.returns
returns c = parcels_are_one
