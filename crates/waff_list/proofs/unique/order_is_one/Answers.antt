use Rattle.waff_list.proofs.SeatsUniqueness.{order_is_one}
use Rattle.waff_list.proofs.unique.order_is_one.Goals as goal

pub returns : goal.returns
returns c = record { equal = order_is_one }
