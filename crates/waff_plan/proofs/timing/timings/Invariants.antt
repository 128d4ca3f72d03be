use Rattle.std.proofs.Common.{◌≡◌, ◌-◌, length, map, vec_capacity}
use Rattle.std.specs.List.{range_with_len}
use Rattle.waff_plan.specs.LastMessages.{AreLast}
use Rattle.waff_plan.specs.Timetable.{clients_of, timing_at}
use Rattle.waff_plan.proofs.timing.timings.Given as goal

abbrev pub invariant-loop-n : goal.invariant-loop-n
invariant-loop-n l = record {
  last : AreLast (clients_of l.trace.messages) (l.n - 1) l.last;
  each : l.timings.items ≡ map (timing_at l.trace.messages) (range_with_len 1 (l.n - 1));
  room : vec_capacity l.timings ≡ length l.trace.messages;
}
