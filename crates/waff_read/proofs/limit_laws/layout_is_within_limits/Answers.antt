use Rattle.waff_read.proofs.LimitLaws.{layout_is_within_limits}
use Rattle.waff_read.proofs.limit_laws.layout_is_within_limits.Goals as goal

pub returns : goal.returns
returns c = record { limits = layout_is_within_limits }
