use Rattle.std.proofs.Common.{◌≡◌, ◌-◌, length}
use Rattle.waff_plan.specs.Timing.{work_of}
use Rattle.waff_list.specs.Tails.{tail_of}
use Rattle.waff_list.specs.Telling.{basis_of}
use Rattle.waff_list.proofs.TailMaking.{AreTailsAfter}
use Rattle.waff_list.proofs.TailOrders.{gap_by, holds_by}
use Rattle.waff_list.proofs.tails.tails.Given as goal

abbrev pub invariant-loop-m : goal.invariant-loop-m
invariant-loop-m l = record {
  count : length l.tails.items ≡ length l.timings;
  after : AreTailsAfter (holds_by (basis_of l.service) (work_of l.timings)) (work_of l.timings) (gap_by (basis_of l.service) (work_of l.timings))
      (tail_of l.tails.items) (l.m - 1);
}
