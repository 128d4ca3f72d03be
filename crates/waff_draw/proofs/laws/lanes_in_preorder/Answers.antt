use Rattle.waff_draw.proofs.PreorderLemmas.{lanes_in_preorder}
use Rattle.waff_draw.proofs.laws.lanes_in_preorder.Goals as goal

pub returns : goal.returns
returns c = lanes_in_preorder
