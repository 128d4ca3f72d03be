use Rattle.waff_model.specs.Preorder.{AreShares}
use Rattle.waff_model.proofs.preorder.share_out.Given as goal

abbrev pub invariant-loop-at : goal.invariant-loop-at
invariant-loop-at l = AreShares l.nodes l.shares l.at
