use Rattle.std.proofs.Common.{◌+◌, ◌/◌, arith, sym, subst₂}
use Rattle.waff_model.specs.Blocks.{AreSummed}
use Rattle.waff_model.proofs.BlockLemmas.{summed_none}
use Rattle.waff_model.proofs.spans.Standing.none.Goals as goal

pub invariant_of-result : goal.invariant_of-result
invariant_of-result g c =
    let join = g.T.Later.join in
    subst₂ (λ places blocks. AreSummed join places blocks) (sym c.in_ok-filled.ensures) (sym c.in_ok-filled-2.ensures)
    (summed_none join g.met.T.Later.laws c.args.count (c.args.count / 64 + 1) (omega arith))
