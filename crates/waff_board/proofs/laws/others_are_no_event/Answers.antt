use Rattle.waff_board.proofs.Events.{look_is_no_event, making_is_no_event}
use Rattle.waff_board.proofs.laws.others_are_no_event.Goals as goal

pub returns-clause-look : goal.returns-clause-look
returns-clause-look c = look_is_no_event

pub returns-clause-making : goal.returns-clause-making
returns-clause-making c = making_is_no_event
