use Rattle.waff_board.proofs.Events.{begin_is_one_event}
use Rattle.waff_board.proofs.laws.begin_is_one_event.Goals as goal

pub returns : goal.returns
returns c = begin_is_one_event
