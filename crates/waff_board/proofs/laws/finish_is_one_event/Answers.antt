use Rattle.waff_board.proofs.Events.{finish_is_one_event}
use Rattle.waff_board.proofs.laws.finish_is_one_event.Goals as goal

pub returns : goal.returns
returns c = finish_is_one_event
