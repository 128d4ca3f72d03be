use Rattle.waff_cells.proofs.MeaningLaws.{leaves_parcel}
use Rattle.waff_cells.proofs.laws.others_leave_parcel.Goals as goal

pub returns : goal.returns
returns c = leaves_parcel
