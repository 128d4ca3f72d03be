use Rattle.waff_draw.proofs.RowLemmas.{row_is_of_lane}
use Rattle.waff_draw.proofs.laws.row_is_of_lane.Goals as goal

pub returns : goal.returns
returns c = record { row = row_is_of_lane }
