use Rattle.std.proofs.Common.{Some, sym, ◌∙◌}
use Rattle.std.proofs.lemmas.Result.{IfOk-weaker}
use Rattle.waff_limits.specs.Data.{IsMostOf, ticks_on}
use Rattle.waff_limits.specs.Locks.{ticks_needed}
use Rattle.waff_limits.specs.Writes.{ticks_by}
use Rattle.waff_limits.proofs.SharedCells.{by_locks, needed_without_locks, same_most_of}
use Rattle.waff_limits.proofs.writes.most_needed_cell.Goals as goal

pub returns-then-has_locks : goal.returns-then-has_locks
returns-then-has_locks c =
    let spaces = c.args.layout.now.spaces in
    let messages = c.args.trace.now.messages in
    IfOk-weaker c.most_by.result _ (IsMostOf (ticks_needed spaces messages))
    (λ found most. same_most_of (ticks_by (Some spaces) messages) (ticks_needed spaces messages) (by_locks spaces messages) found most)
    c.most_by.ensures

pub returns-else-has_locks : goal.returns-else-has_locks
returns-else-has_locks c =
    let spaces = c.args.layout.now.spaces in
    let messages = c.args.trace.now.messages in
    IfOk-weaker c.most_used_cell.result _ (IsMostOf (ticks_needed spaces messages))
    (λ found most. same_most_of (ticks_on messages) (ticks_needed spaces messages) (needed_without_locks spaces messages (sym c.has_locks.ensures ∙ c.if-has_locks.false)) found most)
    c.most_used_cell.ensures
