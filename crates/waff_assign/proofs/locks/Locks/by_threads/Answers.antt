use Rattle.std.proofs.Common.{sym, subst}
use Rattle.std.proofs.lemmas.Result.{IfOk-weaker}
use Rattle.waff_assign.specs.Lowest.{ListsLocks}
use Rattle.waff_assign.proofs.Once.{are_locks, locks_of_all}
use Rattle.waff_assign.proofs.locks.Locks.by_threads.Goals as goal

pub of_cells-requires : goal.of_cells-requires
of_cells-requires g c =
    are_locks c.args.layout.now c.args.trace.now.messages c.len.result c.in_ok-cells.cells.items c.len.ensures.count c.in_ok-cells.ensures c.len.ensures.trace.few_ops

pub returns : goal.returns
returns g c =
    let all = locks_of_all c.args.layout.now c.args.trace.now.messages c.len.result c.in_ok-cells.cells.items c.len.ensures.count c.in_ok-cells.ensures in
    IfOk-weaker c.of_cells.result _ (ListsLocks c.args.layout.now c.args.trace.now.messages)
    (λ locks same. subst (ListsLocks c.args.layout.now c.args.trace.now.messages) (sym same) all) c.of_cells.ensures
