use Rattle.std.proofs.Common.{◌≡◌, ◌-◌, ◌*◌, ◌^◌, ◌≤◌, sum_by}
use Rattle.std.specs.List.{range_with_len}
use Rattle.waff_plan.proofs.timetable.Plan.total.Given as goal
use Rattle.waff_plan.specs.Timetable.{work_in}

abbrev pub invariant-loop-n : goal.invariant-loop-n
invariant-loop-n l = record {
  sum : l.total ≡ sum_by (work_in l.self).cost (range_with_len 1 (l.n - 1));
  small : l.total ≤ 2 ^ 32 * (l.n - 1);
}
