use Rattle.waff_board.proofs.Between.{done_is_run}
use Rattle.waff_board.proofs.laws.done_is_run.Goals as goal

pub returns : goal.returns
returns c = λ setup. done_is_run setup
