use Rattle.waff_list.proofs.Uniqueness.{order_of_priority, by_arrival}
use Rattle.waff_list.proofs.unique.one_is_taken_first.Goals as goal

pub returns : goal.returns
returns c = record { order = order_of_priority; arrival = by_arrival }
