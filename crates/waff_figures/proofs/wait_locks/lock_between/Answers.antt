use Rattle.std.proofs.Common.{sym, ◌∙◌}
use Rattle.std.proofs.lemmas.Bool.{false≢true}
use Rattle.waff_assign.specs.Order.{held_of}
use Rattle.waff_figures.proofs.LocksWaited.{first_between}
use Rattle.waff_figures.proofs.wait_locks.lock_between.Goals as goal

pub returns : goal.returns
returns c =
    first_between c.args.tree.now (held_of c.args.assigned.now c.args.i) (held_of c.args.assigned.now c.args.j) c.contended_lock.result
    (λ exclude. false≢true (sym c.if-exclude_by_affinities.false ∙ c.exclude_by_affinities.ensures.1 exclude)) c.contended_lock.ensures
