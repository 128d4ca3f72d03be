use Rattle.std.proofs.Common.{length}
use Rattle.waff_list.specs.Ready.{AreGathered}
use Rattle.waff_list.proofs.planner.gather.Given as goal

abbrev pub invariant-loop-ready : goal.invariant-loop-ready
invariant-loop-ready l = AreGathered l.initial.ready l.most l.started.items l.ready

abbrev pub decreases-loop-ready : goal.decreases-loop-ready
decreases-loop-ready l = length l.ready
