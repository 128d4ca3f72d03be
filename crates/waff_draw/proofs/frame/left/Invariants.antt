use Rattle.std.proofs.Common.{◌≡◌, ◌^◌, ◌≤◌, drop, fold, max}
use Rattle.waff_draw.specs.Frames.{lane_end, left_in}
use Rattle.waff_draw.specs.Scene.{lanes_in}
use Rattle.waff_draw.proofs.frame.left.Given as goal

abbrev pub invariant-loop-row : goal.invariant-loop-row
invariant-loop-row l = record {
  rest : fold (λ left lane. max left (lane_end l.chart.instance.tree lane)) l.left (drop l.row (lanes_in l.chart)) ≡ left_in l.chart;
  small : l.left ≤ 2 ^ 70;
}
