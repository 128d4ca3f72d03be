use Rattle.std.proofs.Common.{◌≡◌, ◌≤◌, drop}
use Rattle.waff_model.specs.declared.limits.TheConstants.{MAX_THINK}
use Rattle.waff_plan.specs.Work.{gap_after}
use Rattle.waff_plan.proofs.totals.gap_between.Given as goal

-- the gap by those that stand behind
abbrev pub invariant-loop-k : goal.invariant-loop-k
invariant-loop-k l = record {
  gap : l.gap ≡ gap_after l.i (drop l.k l.after);
  small : l.gap ≤ MAX_THINK;
}
