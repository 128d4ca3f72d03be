use Rattle.std.proofs.Common.{◌+◌, ◌/◌, length, arith, ◌∙◌, ap, ap₂}
use Rattle.std.proofs.lemmas.List.{length-replicate}
use Rattle.waff_model.specs.Blocks.{spread_from}
use Rattle.waff_model.proofs.BlockLemmas.{spread_none}
use Rattle.waff_model.proofs.spans.Blocks.none.Goals as goal

pub returns : goal.returns
returns g c =
    let join = g.T.Later.join in
    ap₂ (λ blocks places. spread_from join blocks 0 places) c.in_ok-filled-2.ensures c.in_ok-filled.ensures
    ∙ spread_none join g.met.T.Later.laws c.args.count (c.args.count / 64 + 1) 0

pub overflow_add-count : goal.overflow_add-count
overflow_add-count g c = omega (arith, c.ranges.count.fits)

pub invariant_of-result : goal.invariant_of-result
invariant_of-result g c =
    let none = g.T.Later.join.none in
    let count = c.args.count in
    let places = ap length c.in_ok-filled.ensures ∙ length-replicate count none in
    let blocks = ap length c.in_ok-filled-2.ensures ∙ length-replicate (count / 64 + 1) none in
    omega (arith, places, blocks)
