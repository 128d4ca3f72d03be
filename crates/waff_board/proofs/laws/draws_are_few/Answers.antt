use Rattle.waff_board.proofs.Between.{draws_are_few}
use Rattle.waff_board.proofs.laws.draws_are_few.Goals as goal

pub returns : goal.returns
returns c = λ setup. draws_are_few setup
