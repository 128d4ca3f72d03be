use Rattle.std.proofs.Common.{◌-◌, ◌≤◌, length}
use Rattle.waff_run.proofs.calls.longest_of.Given as goal

abbrev pub invariant-loop-at : goal.invariant-loop-at
invariant-loop-at l = l.at ≤ length l.ops

abbrev pub decreases-loop-at : goal.decreases-loop-at
decreases-loop-at l = length l.ops - l.at
