use Rattle.std.proofs.Common.{string_bytes, arith}
use Rattle.waff_draw.specs.Scene.{lanes_in}
use Rattle.waff_draw.specs.Svg.{affinity_lane}
use Rattle.waff_draw.proofs.TextLemmas.{more_from}
use Rattle.waff_draw.proofs.svg.push_affinity_lanes.Goals as goal

pub loop-row-preserved : goal.loop-row-preserved
loop-row-preserved c =
    let row = c.loop-row.row in
    let scene = c.args.chart.now in
    more_from (affinity_lane scene.instance.tree (lanes_in scene)) 0 row row (string_bytes c.args.text.now)
    (string_bytes c.loop-row.text) (string_bytes c.push_affinity_lane.new.text) (omega arith) c.loop-row.invariant
    c.in_ok-push_affinity_lane.ensures
