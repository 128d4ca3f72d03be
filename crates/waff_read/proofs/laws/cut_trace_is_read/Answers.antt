use Rattle.waff_read.proofs.CutLaws.{cut_trace_is_read}
use Rattle.waff_read.proofs.laws.cut_trace_is_read.Goals as goal

pub returns : goal.returns
returns c = λ newest spaces bytes trace numbers told. cut_trace_is_read newest spaces bytes trace numbers told
