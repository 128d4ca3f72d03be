use Rattle.waff_read.proofs.AnewLaws.{rows_are_text}
use Rattle.waff_read.proofs.laws.rows_are_text.Goals as goal

pub returns : goal.returns
returns c = λ newest spaces bytes trace. rows_are_text newest spaces bytes trace
