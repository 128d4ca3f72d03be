use Rattle.waff_read.proofs.LimitLaws.{trace_is_within_limits}
use Rattle.waff_read.proofs.limit_laws.trace_is_within_limits.Goals as goal

pub returns : goal.returns
returns c = record { limits = trace_is_within_limits }
