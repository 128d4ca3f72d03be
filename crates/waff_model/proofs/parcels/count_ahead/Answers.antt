use Rattle.std.proofs.Common.{ap, ◌∙◌, arith}
use Rattle.waff_model.specs.Parcel.{owned_among}
use Rattle.waff_model.proofs.ParcelLemmas.{ahead_of_next}
use Rattle.waff_model.proofs.parcels.count_ahead.Goals as goal

pub loop-before-preserved : goal.loop-before-preserved
loop-before-preserved c =
    let spaces = c.args.layout.now.spaces in
    let s = c.loop-before.before in
    c.count_on-count.ensures
    ∙ ap (λ n. owned_among spaces n c.args.a.0) (omega (arith, c.space_size.ensures, ahead_of_next spaces s (omega (arith, c.requires))))
