use Rattle.std.proofs.Common.{flat_map}
use Rattle.std.specs.List.{range_with_len}
use Rattle.waff_plan_text.specs.Lines.{Adds}
use Rattle.waff_draw.specs.Scene.{lanes_in}
use Rattle.waff_draw.specs.Svg.{affinity_lane}
use Rattle.waff_draw.proofs.svg.push_affinity_lanes.Given as goal

abbrev pub invariant-loop-row : goal.invariant-loop-row
invariant-loop-row l =
    Adds l.initial.text l.text
    (flat_map (affinity_lane l.chart.instance.tree (lanes_in l.chart)) (range_with_len 0 l.row))
