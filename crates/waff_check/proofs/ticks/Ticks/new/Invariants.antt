use Rattle.std.proofs.Common.{◌≡◌, ◌-◌, map}
use Rattle.std.specs.List.{range_with_len}
use Rattle.waff_plan.specs.Timing.{start_of, work_of}
use Rattle.waff_plan.specs.Work.{finish_of}
use Rattle.waff_check.proofs.ticks.Ticks.new.Given as goal

abbrev pub invariant-loop-n : goal.invariant-loop-n
invariant-loop-n l = record {
  starts : l.starts.items ≡ map (start_of l.plan.starts) (range_with_len 1 (l.n - 1));
  finishes : l.finishes.items ≡ map (finish_of (work_of l.plan.timings) (start_of l.plan.starts)) (range_with_len 1 (l.n - 1));
}
