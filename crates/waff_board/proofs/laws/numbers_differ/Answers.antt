use Rattle.waff_board.proofs.Between.{numbers_are_apart}
use Rattle.waff_board.proofs.laws.numbers_differ.Goals as goal

pub returns : goal.returns
returns c = λ setup. numbers_are_apart setup
