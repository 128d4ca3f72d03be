use Rattle.std.proofs.Common.{◌≡◌, ◌-◌, ◌*◌, ◌≤◌, sum_by}
use Rattle.std.specs.List.{range_with_len}
use Rattle.waff_plan.specs.Timing.{start_of, work_of}
use Rattle.waff_plan.specs.Work.{issue_of}
use Rattle.waff_model.specs.declared.limits.TheConstants.{MAX_TICK}
use Rattle.waff_figures.proofs.figures.sum_of_waits.Given as goal

abbrev pub invariant-loop-n : goal.invariant-loop-n
invariant-loop-n l = record {
  sum : l.waits ≡ sum_by (λ m. start_of l.plan.starts m - issue_of (work_of l.plan.timings) (start_of l.plan.starts) m) (range_with_len 1 (l.n - 1));
  small : l.waits ≤ MAX_TICK * (l.n - 1);
}
