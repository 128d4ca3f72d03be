use Rattle.waff_read.proofs.ExactLaws.{pieces_are_single}
use Rattle.waff_read.proofs.laws.pieces_are_single.Goals as goal

pub returns : goal.returns
returns c = λ version spaces piece. pieces_are_single version spaces piece
