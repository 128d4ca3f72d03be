use Rattle.std.proofs.Common.{ap₂, subst, arith}
use Rattle.waff_model.specs.Layout.{Hierarchy}
use Rattle.waff_model.specs.Parcel.{offset_of}
use Rattle.waff_cells.specs.Held.{Address, rows_of}
use Rattle.waff_cells.specs.ParcelTable.{AreOfCells}
use Rattle.waff_cells.proofs.ParcelTables.{row_there, number_there, number_is}
use Rattle.waff_cells.proofs.parcel_table.ParcelTableAddresses.address.Goals as goal

pub index-requires : goal.index-requires
index-requires c =
    let spaces = c.args.self.now.spaces in
    let vecs = c.self.inside.offsets.items in
    let are = subst (λ (layout : Hierarchy). AreOfCells layout.spaces (offset_of layout.spaces) (rows_of vecs)) c.self.view_is c.self.invariant.placed in
    omega (arith, row_there spaces (offset_of spaces) vecs are c.args.cell c.requires, c.self.inside.offsets.ok.0)

pub index-offset-requires : goal.index-offset-requires
index-offset-requires c =
    let spaces = c.args.self.now.spaces in
    let vecs = c.self.inside.offsets.items in
    let are = subst (λ (layout : Hierarchy). AreOfCells layout.spaces (offset_of layout.spaces) (rows_of vecs)) c.self.view_is c.self.invariant.placed in
    omega (arith, number_there spaces (offset_of spaces) vecs are c.args.cell c.requires c.index.result.now c.index.ensures, c.index.result.now.ok.0)

pub returns : goal.returns
returns c =
    let spaces = c.args.self.now.spaces in
    let vecs = c.self.inside.offsets.items in
    let are = subst (λ (layout : Hierarchy). AreOfCells layout.spaces (offset_of layout.spaces) (rows_of vecs)) c.self.view_is c.self.invariant.placed in
    ap₂ {C = Address} (λ i j. (i, j)) c.owner.ensures
    (number_is spaces (offset_of spaces) vecs are c.args.cell c.requires c.index.result.now c.index.ensures c.index-offset.result.now c.index-offset.ensures)
