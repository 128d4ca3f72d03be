use Rattle.waff_order.proofs.ChosenLemmas.{lists_are_one}
use Rattle.waff_order.proofs.predecessors.needs_are_one.Goals as goal

pub returns : goal.returns
returns c = lists_are_one
