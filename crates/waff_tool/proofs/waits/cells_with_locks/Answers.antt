use Rattle.std.proofs.Common.{sym, ◌∙◌, subst}
use Rattle.waff_model.proofs.Unlocking.{none_is_locked}
use Rattle.waff_assign.specs.Lowest.{ListsLocks}
use Rattle.waff_assign.proofs.Assignments.{no_locks}
use Rattle.waff_tool.proofs.waits.cells_with_locks.Goals as goal

pub returns-else-has_locks : goal.returns-else-has_locks
returns-else-has_locks c =
    subst (ListsLocks c.args.layout.now c.args.trace.now.messages) (sym c.new.ensures.items)
    (no_locks c.args.layout.now (none_is_locked c.args.layout.now.spaces (sym c.has_locks.ensures ∙ c.if-has_locks.false)) c.args.trace.now.messages)
