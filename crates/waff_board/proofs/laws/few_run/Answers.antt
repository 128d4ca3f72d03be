use Rattle.waff_board.proofs.Between.{few_run}
use Rattle.waff_board.proofs.laws.few_run.Goals as goal

pub returns : goal.returns
returns c = λ setup. few_run setup
