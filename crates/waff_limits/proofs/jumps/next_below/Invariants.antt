use Rattle.std.proofs.Common.{◌≢◌, ◌<◌, length}
use Rattle.waff_model.specs.Tree.{AtOrAbove}
use Rattle.waff_limits.proofs.jumps.next_below.Given as goal

abbrev pub invariant-loop-parent : goal.invariant-loop-parent
invariant-loop-parent l = record {
  within : l.at.0 < length l.tree;
  below : AtOrAbove l.tree l.at.0 l.fn.affinity.0;
  above : AtOrAbove l.tree l.above.0 l.at.0;
  apart : l.above.0 ≢ l.at.0;
}

abbrev pub decreases-loop-parent : goal.decreases-loop-parent
decreases-loop-parent l = l.at.0
