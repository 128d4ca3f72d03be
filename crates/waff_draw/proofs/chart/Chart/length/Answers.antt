use Rattle.std.proofs.Common.{◌∙◌, ap}
use Rattle.waff_draw.specs.Scene.{length_in}
use Rattle.waff_draw.proofs.chart.Chart.length.Goals as goal

pub returns : goal.returns
returns c = c.self.invariant.long ∙ ap length_in c.self.view_is
