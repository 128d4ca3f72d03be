use Rattle.waff_read.proofs.TraceSpellings.{spelled_trace_is_read}
use Rattle.waff_read.proofs.laws.spelled_trace_is_read.Goals as goal

pub returns : goal.returns
returns c = λ newest layout trace. spelled_trace_is_read newest layout trace
