use Rattle.std.proofs.Common.{◌≡◌, ◌-◌, map}
use Rattle.std.specs.List.{range_with_len}
use Rattle.waff_plan.specs.LowerBound.{earliest_finish}
use Rattle.waff_plan.specs.Timing.{work_by}
use Rattle.waff_plan.specs.Peak.{IsPeak}
use Rattle.waff_plan.proofs.lower_bound.longest_awaiting.Given as goal

abbrev pub invariant-loop-n : goal.invariant-loop-n
invariant-loop-n l = record {
  finishes : l.finishes.items ≡ map (earliest_finish (work_by l.awaited l.plan.timings)) (range_with_len 1 (l.n - 1));
  longest : IsPeak (earliest_finish (work_by l.awaited l.plan.timings)) 1 (l.n - 1) l.longest;
}
