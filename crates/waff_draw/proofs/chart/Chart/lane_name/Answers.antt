use Rattle.std.proofs.Common.{◌≡◌, length, arith, ◌∙◌, ap}
use Rattle.waff_draw.specs.Scene.{lanes_in}
use Rattle.waff_draw.proofs.chart.Chart.lane_name.Goals as goal

pub index-requires : goal.index-requires
index-requires c =
    let shown : c.self.inside.lanes.items ≡ lanes_in c.args.self.now = c.self.invariant.shown ∙ ap lanes_in c.self.view_is in
    omega (arith, c.requires, ap length shown, c.self.inside.lanes.ok.0)
