use Rattle.std.proofs.Common.{◌≡◌, ◌-◌, map}
use Rattle.std.specs.List.{range_with_len}
use Rattle.waff_plan.specs.Timing.{start_of, work_of}
use Rattle.waff_plan.specs.Work.{greatest}
use Rattle.waff_figures.specs.Figures.{latency_of}
use Rattle.waff_figures.proofs.figures.greatest_latency.Given as goal

abbrev pub invariant-loop-n : goal.invariant-loop-n
invariant-loop-n l =
    l.greatest ≡ greatest (map (latency_of (work_of l.plan.timings) (start_of l.plan.starts)) (range_with_len 1 (l.n - 1)))
