use Rattle.std.proofs.lemmas.Result.{IfOk-at_ok}
use Rattle.std.proofs.Common.{List, subst}
use Rattle.waff_model.specs.declared.locking.Locking.{Locking}
use Rattle.waff_locks.specs.Sets.{AreFiguresWith}
use Rattle.waff_locks.proofs.sets.both_ends.Goals as goal

pub returns-then-are_same : goal.returns-then-are_same
returns-then-are_same g c =
    let asked = c.args.asked.now in
    record {
      before = c.in_ok-before.ensures;
      all = subst (λ (lockings : List Locking). AreFiguresWith asked.wanted.now asked.layout.now asked.trace.now lockings c.in_ok-before.before)
          (c.are_same.ensures c.if-are_same.true) c.in_ok-before.ensures;
    }

pub returns : goal.returns
returns g c =
    let asked = c.args.asked.now in
    let are = AreFiguresWith asked.wanted.now asked.layout.now asked.trace.now in
    record {
      before = IfOk-at_ok (are c.args.lockings.now) c.in_ok-before-2.was c.join-before.ensures.first;
      all = IfOk-at_ok (are c.args.all.now) c.in_ok-all.was c.join-before.ensures.second;
    }
