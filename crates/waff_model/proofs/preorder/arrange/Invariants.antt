use Rattle.waff_model.proofs.ArrangeLemmas.{ArePlacedBefore}
use Rattle.waff_model.proofs.preorder.arrange.Given as goal

abbrev pub invariant-loop-at : goal.invariant-loop-at
invariant-loop-at l = ArePlacedBefore l.nodes l.shares l.spans.items l.at
