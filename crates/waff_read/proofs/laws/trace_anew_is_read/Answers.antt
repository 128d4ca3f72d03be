use Rattle.waff_read.proofs.AnewLaws.{trace_anew_is_read}
use Rattle.waff_read.proofs.laws.trace_anew_is_read.Goals as goal

pub returns : goal.returns
returns c = λ newest spaces bytes trace told. trace_anew_is_read newest spaces bytes trace told
