use Rattle.waff_board.proofs.Between.{handed_out_once}
use Rattle.waff_board.proofs.laws.handed_out_once.Goals as goal

pub returns : goal.returns
returns c = λ setup. handed_out_once setup
