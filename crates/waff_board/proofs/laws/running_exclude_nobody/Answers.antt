use Rattle.waff_board.proofs.Between.{running_exclude_nobody}
use Rattle.waff_board.proofs.laws.running_exclude_nobody.Goals as goal

pub returns : goal.returns
returns c = λ setup. running_exclude_nobody setup
