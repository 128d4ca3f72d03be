use Rattle.std.proofs.Common.{refl, length, map, sym, subst, ◌∙◌, ap}
use Rattle.waff_model.specs.Layout.{Hierarchy}
use Rattle.waff_cells.specs.Held.{rows_of, number_at, IsWithin}
use Rattle.waff_cells.specs.Parcel.{IsOwned}
use Rattle.waff_cells.proofs.Holdings.{parcel_address, hold_parcels}
use Rattle.waff_cells.proofs.parcels.get.Goals as goal

pub number_at-requires : goal.number_at-requires
number_at-requires c =
    let spaces = c.args.table.now.spaces in
    let owners = c.args.owners.now in
    let rows = rows_of c.args.parcels.now in
    let owned = subst (λ (layout : Hierarchy). IsOwned layout.spaces owners c.args.cell) c.layout.ensures (c.if-is_owned.ensures.0 refl) in
    subst (IsWithin (map length rows)) (sym c.address.ensures) (parcel_address spaces owners rows c.requires c.args.cell owned)

pub returns-then-is_owned-clause-number : goal.returns-then-is_owned-clause-number
returns-then-is_owned-clause-number c = λ cells parcels.
    let spaces = c.args.table.now.spaces in
    let owners = c.args.owners.now in
    let rows = rows_of c.args.parcels.now in
    let owned = subst (λ (layout : Hierarchy). IsOwned layout.spaces owners c.args.cell) c.layout.ensures (c.if-is_owned.ensures.0 refl) in
    c.number_at.ensures ∙ ap (number_at rows) c.address.ensures ∙ hold_parcels spaces owners cells rows parcels c.args.cell owned
