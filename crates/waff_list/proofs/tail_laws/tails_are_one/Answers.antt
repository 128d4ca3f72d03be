use Rattle.waff_assign.specs.Order.{IsOrdered}
use Rattle.waff_list.proofs.TailLemmas.{ordered_ahead, tails_are_one}
use Rattle.waff_list.proofs.tail_laws.tails_are_one.Goals as goal

pub returns : goal.returns
returns c = λ tree assigned work same. tails_are_one (IsOrdered tree assigned) work (ordered_ahead tree assigned work same)
