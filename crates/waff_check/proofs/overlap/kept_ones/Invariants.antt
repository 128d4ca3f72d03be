use Rattle.std.proofs.Common.{◌-◌, ◌≤◌}
use Rattle.waff_plan.specs.Planned.{planned_work}
use Rattle.waff_check.specs.Searches.{NoneAmong}
use Rattle.waff_check.proofs.overlap.kept_ones.Given as goal

abbrev pub invariant-loop-kept : goal.invariant-loop-kept
invariant-loop-kept l = record {
  kept : NoneAmong l.planned l.kept;
  rising : l.kept ≤ l.broken;
  within : l.broken ≤ (planned_work l.planned).count;
}

abbrev pub decreases-loop-kept : goal.decreases-loop-kept
decreases-loop-kept l = l.broken - l.kept
