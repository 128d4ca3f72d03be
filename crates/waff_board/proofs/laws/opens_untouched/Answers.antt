use Rattle.waff_board.proofs.Between.{opens_untouched}
use Rattle.waff_board.proofs.laws.opens_untouched.Goals as goal

pub returns : goal.returns
returns c = λ setup. opens_untouched setup
