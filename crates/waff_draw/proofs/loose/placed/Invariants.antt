use Rattle.std.proofs.Common.{◌≡◌, ◌+◌, ◌≤◌, length, take}
use Rattle.waff_plan.specs.Timing.{start_of, work_of}
use Rattle.waff_plan.specs.Work.{finish_of}
use Rattle.waff_draw.specs.Loose.{lanes_over}
use Rattle.waff_draw.proofs.loose.placed.Given as goal

abbrev pub invariant-loop-n : goal.invariant-loop-n
invariant-loop-n l = record {
  ends : l.ends.items ≡ (lanes_over (start_of l.plan.starts) (finish_of (work_of l.plan.timings) (start_of l.plan.starts)) (length l.plan.timings) (take l.n-index l.order)).ends;
  places : l.places.items ≡ (lanes_over (start_of l.plan.starts) (finish_of (work_of l.plan.timings) (start_of l.plan.starts)) (length l.plan.timings) (take l.n-index l.order)).places;
  few : length l.ends.items ≤ 64;
  count : length l.places.items ≡ length l.plan.timings + 1;
}
