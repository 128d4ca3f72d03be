use Rattle.waff_board.proofs.Between.{seen_is_done}
use Rattle.waff_board.proofs.laws.seen_is_done.Goals as goal

pub returns : goal.returns
returns c = λ setup. seen_is_done setup
