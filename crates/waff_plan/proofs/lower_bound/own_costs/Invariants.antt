use Rattle.std.proofs.Common.{◌≡◌, ℕ, ◌-◌, ◌*◌, ◌^◌, ◌<◌, ◌≤◌, length, get_or, sum_by}
use Rattle.std.specs.List.{range_with_len}
use Rattle.waff_plan.specs.LowerBound.{cost_in}
use Rattle.waff_plan.specs.Timetable.{work_in}
use Rattle.waff_plan.proofs.lower_bound.own_costs.Given as goal

abbrev pub invariant-loop-n : goal.invariant-loop-n
invariant-loop-n l = record {
  count : length l.costs.items ≡ length l.case.tree.now;
  each : (a : ℕ) → a < length l.costs.items
      → get_or l.costs.items a 0 ≡ sum_by (cost_in l.case.assigned.now (work_in l.plan) a) (range_with_len 1 (l.n - 1));
  small : (a : ℕ) → a < length l.costs.items → get_or l.costs.items a 0 ≤ 2 ^ 32 * (l.n - 1);
}
