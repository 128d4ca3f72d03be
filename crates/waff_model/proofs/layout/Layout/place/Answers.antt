use Rattle.std.proofs.Common.{◌<◌, ◌∙◌, ap, subst, sym}
use Rattle.waff_model.specs.Parcel.{cells_before, offset_of, owned_among, parcel_size}
use Rattle.waff_model.proofs.ParcelLemmas.{offset_within}
use Rattle.waff_model.proofs.layout.Layout.place.Goals as goal

pub returns-clause-within : goal.returns-clause-within
returns-clause-within c =
    let spaces = c.args.self.now.spaces in
    let owner = c.owner-owner.ensures.owner in
    let place = c.count_on.ensures ∙ ap (owned_among spaces (cells_before spaces c.args.cell)) owner in
    subst (λ n. n < parcel_size spaces c.owner-owner.result.0) (sym place)
    (subst (λ a. offset_of spaces c.args.cell < parcel_size spaces a) (sym owner) (offset_within spaces c.args.cell c.requires))
