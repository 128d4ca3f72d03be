use Rattle.waff_board.proofs.Between.{actors_are_apart}
use Rattle.waff_board.proofs.laws.actors_differ.Goals as goal

pub returns : goal.returns
returns c = λ setup. actors_are_apart setup
