use Rattle.waff_draw.proofs.PreorderLemmas.{depth_is_steps}
use Rattle.waff_draw.proofs.laws.depth_is_steps.Goals as goal

pub returns : goal.returns
returns c = depth_is_steps
