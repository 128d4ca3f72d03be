use Rattle.std.proofs.Common.{None}
use Rattle.std.proofs.lemmas.Result.{IfOk-weaker}
use Rattle.waff_limits.specs.Data.{IsMostOf}
use Rattle.waff_limits.specs.Writes.{ticks_by, ticks_shared}
use Rattle.waff_limits.proofs.SharedCells.{every_shared, same_most_of}
use Rattle.waff_limits.proofs.writes.most_written_cell.Goals as goal

pub returns : goal.returns
returns c =
    let messages = c.args.trace.now.messages in
    IfOk-weaker c.most_by.result _ (IsMostOf (ticks_shared messages))
    (λ found most. same_most_of (ticks_by None messages) (ticks_shared messages) (every_shared messages) found most)
    c.most_by.ensures
