use Rattle.waff_assign.specs.Order.{IsOrdered}
use Rattle.waff_list.proofs.TailLemmas.{ordered_ahead, tail_is_greatest_chain}
use Rattle.waff_list.proofs.tail_laws.tail_is_greatest_chain.Goals as goal

pub returns : goal.returns
returns c = λ tree assigned work same none. tail_is_greatest_chain (IsOrdered tree assigned) work (ordered_ahead tree assigned work same) none
