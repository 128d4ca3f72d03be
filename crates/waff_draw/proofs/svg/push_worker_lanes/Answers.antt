use Rattle.std.proofs.Common.{length, string_bytes}
use Rattle.waff_draw.specs.Scene.{lanes_in}
use Rattle.waff_draw.specs.Svg.{worker_lane}
use Rattle.waff_draw.proofs.TextLemmas.{more_numbers}
use Rattle.waff_draw.proofs.svg.push_worker_lanes.Goals as goal

pub loop-worker-preserved : goal.loop-worker-preserved
loop-worker-preserved c =
    more_numbers (worker_lane (length (lanes_in c.args.chart.now))) c.loop-worker.worker (string_bytes c.args.text.now)
    (string_bytes c.loop-worker.text) (string_bytes c.push_worker_lane.new.text) c.loop-worker.auto.worker c.loop-worker.invariant
    c.in_ok-push_worker_lane.ensures
