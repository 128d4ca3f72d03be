use Rattle.std.proofs.Common.{◌≡◌, ◌-◌, false, length, replicate}
use Rattle.std.specs.List.{range_with_len}
use Rattle.waff_plan.specs.Awaiting.{awaited_by}
use Rattle.waff_plan.specs.Timing.{work_of}
use Rattle.waff_waits.specs.Waits.{AreWaits}
use Rattle.waff_plan.proofs.awaiting.awaiting.Given as goal

abbrev pub invariant-loop-m : goal.invariant-loop-m
invariant-loop-m l = record {
  waits : AreWaits (range_with_len 1 (l.m - 1)) (awaited_by (work_of l.timings)) l.waits;
  none : l.waits.finished ≡ replicate (length l.timings) false;
}
