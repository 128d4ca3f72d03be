use Rattle.std.proofs.Common.{◌≡◌, ◌-◌, length, map, vec_capacity}
use Rattle.std.specs.List.{range_with_len}
use Rattle.waff_plan.specs.Timing.{start_of, work_of}
use Rattle.waff_figures.specs.Figures.{latency_of}
use Rattle.waff_figures.proofs.WorstLemmas.{timed_by}
use Rattle.waff_figures.proofs.worst.all_timed.Given as goal

abbrev pub invariant-loop-message : goal.invariant-loop-message
invariant-loop-message l = record {
  items : l.timed.items ≡ map (timed_by (latency_of (work_of l.plan.timings) (start_of l.plan.starts))) (range_with_len 1 (l.message - 1));
  room : vec_capacity l.timed ≡ length l.plan.timings;
}
