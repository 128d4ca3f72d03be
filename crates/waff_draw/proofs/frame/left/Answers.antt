use Rattle.std.proofs.Common.{◌≡◌, ℕ, ◌+◌, ◌<◌, ◌≤◌, arith, drop, fold, get_or, length, max, sym, ◌∙◌, ap}
use Rattle.std.proofs.lemmas.List.{at_drop_all, at_drop_more}
use Rattle.waff_draw.specs.Frames.{lane_end}
use Rattle.waff_draw.specs.Lanes.{lane_of}
use Rattle.waff_draw.specs.Scene.{lanes_in}
use Rattle.waff_draw.specs.declared.lanes.Lane.{Lane}
use Rattle.waff_draw.proofs.frame.left.Goals as goal

pub loop-row-preserved : goal.loop-row-preserved
loop-row-preserved c =
    let scene = c.args.chart.now in
    let lanes = lanes_in scene in
    let row = c.loop-row.row in
    let left = c.loop-row.left in
    let wider : ℕ → Lane → ℕ = λ l lane. max l (lane_end scene.instance.tree lane) in
    let low : row < length lanes = omega (arith, c.loop-row-test.true, c.lane_count-row-end.ensures.count) in
    let at : c.max-left.result ≡ wider left (get_or lanes row (lane_of 0 0)) = c.max-left.ensures ∙ ap (max left) c.lane_end.ensures.end in
    record {
      rest = ap (λ l. fold wider l (drop (row + 1) lanes)) at
          ∙ sym (at_drop_more (fold wider left) lanes row (lane_of 0 0) low) ∙ c.loop-row.invariant.rest;
      small = omega (arith, c.max-left.ensures, c.lane_end.ensures.small, c.loop-row.invariant.small);
    }

pub returns-clause-left : goal.returns-clause-left
returns-clause-left c =
    let scene = c.args.chart.now in
    let lanes = lanes_in scene in
    let wider : ℕ → Lane → ℕ = λ l lane. max l (lane_end scene.instance.tree lane) in
    let all : length lanes ≤ c.loop-row.row = omega (arith, c.loop-row-test.false, c.lane_count-row-end.ensures.count) in
    sym (at_drop_all (fold wider c.loop-row.left) lanes c.loop-row.row all) ∙ c.loop-row.invariant.rest
