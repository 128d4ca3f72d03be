use Rattle.waff_board.proofs.Events.{shows_one_state}
use Rattle.waff_board.proofs.laws.shows_one_state.Goals as goal

pub returns : goal.returns
returns c = shows_one_state
