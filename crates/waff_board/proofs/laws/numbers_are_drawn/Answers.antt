use Rattle.waff_board.proofs.Between.{numbers_are_drawn}
use Rattle.waff_board.proofs.laws.numbers_are_drawn.Goals as goal

pub returns : goal.returns
returns c = λ setup. numbers_are_drawn setup
