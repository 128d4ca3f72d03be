use Rattle.waff_read.proofs.FaultLaws.{trace_is_exact}
use Rattle.waff_read.proofs.laws.trace_is_exact.Goals as goal

pub returns : goal.returns
returns c = λ newest spaces bytes trace. trace_is_exact newest spaces bytes trace
