use Rattle.std.proofs.Common.{length}
use Rattle.waff_list.proofs.Steps.{AreWoken}
use Rattle.waff_list.proofs.planner.finish_all.Given as goal

abbrev pub invariant-loop-m : goal.invariant-loop-m
invariant-loop-m l = record {
  woken : AreWoken l.task l.next l.initial.progress l.initial.waiting l.progress l.waiting;
}

abbrev pub decreases-loop-m : goal.decreases-loop-m
decreases-loop-m l = length l.progress.finishes
