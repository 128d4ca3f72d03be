use Rattle.waff_assign.specs.Order.{IsOrdered}
use Rattle.waff_order.specs.Needs.{IsNeed}
use Rattle.waff_list.proofs.TailLemmas.{tails_are_shared}
use Rattle.waff_list.proofs.tail_laws.same_paths_have_the_same_tails.Goals as goal

pub returns : goal.returns
returns c = record {
  sets = λ needs others work. tails_are_shared (IsNeed needs) (IsNeed others) work;
  hierarchies = λ tree other_tree assigned other_assigned work. tails_are_shared (IsOrdered tree assigned) (IsOrdered other_tree other_assigned) work;
}
