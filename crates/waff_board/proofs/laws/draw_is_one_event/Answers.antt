use Rattle.waff_board.proofs.Events.{draw_is_one_event}
use Rattle.waff_board.proofs.laws.draw_is_one_event.Goals as goal

pub returns : goal.returns
returns c = draw_is_one_event
