use Rattle.waff_draw.proofs.PreorderLemmas.{lane_is_one}
use Rattle.waff_draw.proofs.laws.lane_is_one.Goals as goal

pub returns : goal.returns
returns c = record { one = lane_is_one }
