use Rattle.waff_board.proofs.Between.{run_once}
use Rattle.waff_board.proofs.laws.run_once.Goals as goal

pub returns : goal.returns
returns c = λ setup. run_once setup
