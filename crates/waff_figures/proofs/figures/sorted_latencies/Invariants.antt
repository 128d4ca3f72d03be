use Rattle.std.proofs.Common.{◌≡◌, ◌-◌, length, map, vec_capacity}
use Rattle.std.specs.List.{range_with_len}
use Rattle.waff_plan.specs.Timing.{start_of, work_of}
use Rattle.waff_figures.specs.Figures.{latency_of}
use Rattle.waff_figures.proofs.figures.sorted_latencies.Given as goal

abbrev pub invariant-loop-n : goal.invariant-loop-n
invariant-loop-n l = record {
  items : l.latencies.items ≡ map (latency_of (work_of l.plan.timings) (start_of l.plan.starts)) (range_with_len 1 (l.n - 1));
  room : vec_capacity l.latencies ≡ length l.plan.timings;
}
