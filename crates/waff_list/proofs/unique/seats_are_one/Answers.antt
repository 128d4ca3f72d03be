use Rattle.waff_list.proofs.SeatsUniqueness.{seats_are_one}
use Rattle.waff_list.proofs.unique.seats_are_one.Goals as goal

pub returns : goal.returns
returns c = record { same = seats_are_one }
