use Rattle.std.proofs.Common.{◌≡◌, ◌+◌, ◌-◌, ◌<◌, get_or, length, arith, refl, ◌∙◌, subst, length-set}
use Rattle.waff_draw.specs.Lanes.{lane_of}
use Rattle.waff_draw.proofs.LaneLemmas.{AreRows, rows_more}
use Rattle.waff_draw.proofs.lanes.rows.Goals as goal

pub loop-row-preserved : goal.loop-row-preserved
loop-row-preserved c =
    let lanes = c.args.lanes.now in
    let rows = c.loop-row.rows.items in
    let row = c.loop-row.row - 1 in
    let lane = get_or lanes row (lane_of 0 0) in
    let next : c.loop-row.row ≡ row + 1 = omega (arith, c.loop-row-test.true) in
    let within : row < length lanes = omega (arith, next, c.loop-row.auto.row) in
    let inside : lane.affinity < length rows = omega (arith, c.requires.known row (lane_of 0 0) within, c.loop-row.invariant.count) in
    record {
      count = length-set rows lane.affinity row ∙ c.loop-row.invariant.count;
      are = rows_more row lanes rows lane (lane_of 0 0) within refl inside (subst (λ n. AreRows n lanes rows) next c.loop-row.invariant.are);
    }
