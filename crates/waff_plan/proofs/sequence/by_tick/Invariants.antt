use Rattle.std.proofs.Common.{◌≡◌, ◌-◌, map}
use Rattle.std.specs.List.{range_with_len}
use Rattle.waff_plan.specs.ByStart.{started_of}
use Rattle.waff_plan.specs.Timing.{start_of}
use Rattle.waff_plan.proofs.sequence.by_tick.Given as goal

abbrev pub invariant-loop-n : goal.invariant-loop-n
invariant-loop-n l = l.started.items ≡ map (started_of (start_of l.ticks)) (range_with_len 1 (l.n - 1))
