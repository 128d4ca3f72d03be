use Rattle.std.proofs.Common.{◌-◌, flat_map, length}
use Rattle.std.specs.List.{range_with_len}
use Rattle.waff_plan_text.specs.Lines.{Adds}
use Rattle.waff_draw.specs.Scene.{lanes_in}
use Rattle.waff_draw.specs.Svg.{worker_lane}
use Rattle.waff_draw.proofs.svg.push_worker_lanes.Given as goal

abbrev pub invariant-loop-worker : goal.invariant-loop-worker
invariant-loop-worker l =
    Adds l.initial.text l.text
    (flat_map (worker_lane (length (lanes_in l.chart))) (range_with_len 1 (l.worker - 1)))
