use Rattle.waff_board.proofs.Between.{run_by_one}
use Rattle.waff_board.proofs.laws.run_by_one.Goals as goal

pub returns : goal.returns
returns c = λ setup. run_by_one setup
