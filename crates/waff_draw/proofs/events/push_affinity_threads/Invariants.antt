use Rattle.std.proofs.Common.{flat_map}
use Rattle.std.specs.List.{range_with_len}
use Rattle.waff_plan_text.specs.Lines.{Adds}
use Rattle.waff_draw.specs.Events.{affinity_thread}
use Rattle.waff_draw.specs.Scene.{lanes_in}
use Rattle.waff_draw.proofs.events.push_affinity_threads.Given as goal

abbrev pub invariant-loop-row : goal.invariant-loop-row
invariant-loop-row l =
    Adds l.initial.text l.text
    (flat_map (affinity_thread l.chart.instance.tree (lanes_in l.chart)) (range_with_len 0 l.row))
