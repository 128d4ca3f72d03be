use Rattle.std.proofs.Common.{◌-◌, flat_map}
use Rattle.std.specs.List.{range_with_len}
use Rattle.waff_plan_text.specs.Lines.{Adds}
use Rattle.waff_draw.specs.Events.{worker_thread}
use Rattle.waff_draw.proofs.events.push_threads_of.Given as goal

abbrev pub invariant-loop-worker : goal.invariant-loop-worker
invariant-loop-worker l = Adds l.initial.text l.text (flat_map (worker_thread l.first) (range_with_len 1 (l.worker - 1)))
