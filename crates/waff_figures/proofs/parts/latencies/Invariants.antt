use Rattle.std.proofs.Common.{◌≡◌, length, take, vec_capacity}
use Rattle.waff_plan.specs.Timetable.{starts_in, work_in}
use Rattle.waff_figures.specs.Figures.{latencies_among}
use Rattle.waff_figures.proofs.parts.latencies.Given as goal

abbrev pub invariant-loop-message : goal.invariant-loop-message
invariant-loop-message l = record {
  items : l.latencies.items ≡ latencies_among (work_in l.plan) (starts_in l.plan) (take l.message-index l.messages);
  room : vec_capacity l.latencies ≡ length l.messages;
}
