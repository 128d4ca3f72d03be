use Rattle.std.proofs.Common.{◌≡◌, ◌+◌, length}
use Rattle.waff_list.proofs.Steps.{AreStartingTo}
use Rattle.waff_list.proofs.planner.start_all.Given as goal

abbrev pub invariant-loop-at : goal.invariant-loop-at
invariant-loop-at l = record {
  on : AreStartingTo l.task l.fn.progress.starts.items l.progress l.waiting l.fn.waiting.ready l.now l.started.items l.at;
  idle : length l.progress.idle + l.at ≡ length l.initial.progress.idle;
}
