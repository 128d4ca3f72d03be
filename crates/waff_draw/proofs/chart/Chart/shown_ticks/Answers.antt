use Rattle.std.proofs.Common.{◌≡◌, ◌-◌, min, arith, ◌∙◌, ap}
use Rattle.waff_draw.specs.Scene.{end_in, finish_in}
use Rattle.waff_draw.proofs.chart.Chart.shown_ticks.Goals as goal
use Rattle.waff_draw.proofs.chart.Chart.shown_ticks.Goals.{then-from-self, else-from-self}

pub returns : goal.returns
returns c =
    let scene = c.args.self.now in
    let n = c.args.n in
    let finish = c.finish-finish.ensures in
    let ends : c.self.inside.end ≡ end_in scene = c.self.invariant.ends ∙ ap end_in c.self.view_is in
    let end : c.if-from-self.end ≡ min (finish_in scene n) (end_in scene) = elim c.if-from-self.branch [
      | then-from-self w ↦ omega (arith, w.if-from-self, w.end-is, finish, c.from.ensures, ends)
      | else-from-self w ↦ omega (arith, w.if-from-self, w.end-is, finish, c.from.ensures, ends)
    ] in
    c.saturating_sub.ensures ∙ ap (λ e. e - c.shown_start.result) end ∙ ap (λ s. min (finish_in scene n) (end_in scene) - s) c.shown_start.ensures.start
