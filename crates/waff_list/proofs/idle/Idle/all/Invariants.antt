use Rattle.waff_model.specs.Numbers.{IsAmongFirst}
use Rattle.waff_waits.specs.Times.{AreEach}
use Rattle.waff_list.proofs.idle.Idle.all.Given as goal

abbrev pub invariant-loop-worker : goal.invariant-loop-worker
invariant-loop-worker l = AreEach (IsAmongFirst l.worker) l.idle
