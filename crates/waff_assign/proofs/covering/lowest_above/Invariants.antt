use Rattle.std.proofs.Common.{ℕ, ◌<◌, length}
use Rattle.waff_model.specs.Tree.{AtOrAbove}
use Rattle.waff_assign.proofs.covering.lowest_above.Given as goal

abbrev pub invariant-loop-second : goal.invariant-loop-second
invariant-loop-second l = record {
  within : l.at.0 < length l.tree;
  above : AtOrAbove l.tree l.at.0 l.fn.first.0;
  lowest : (a : ℕ) → AtOrAbove l.tree a l.fn.first.0 → AtOrAbove l.tree a l.second.0 → AtOrAbove l.tree a l.at.0;
}

abbrev pub decreases-loop-second : goal.decreases-loop-second
decreases-loop-second l = l.at.0
