use Rattle.std.proofs.Common.{subst, arith}
use Rattle.waff_model.specs.Layout.{Hierarchy, owner_of}
use Rattle.waff_cells.specs.Held.{rows_of}
use Rattle.waff_cells.specs.ParcelTable.{AreOfCells}
use Rattle.waff_cells.proofs.ParcelTables.{row_there, number_there, number_is}
use Rattle.waff_cells.proofs.parcel_table.ParcelTable.owner.Goals as goal

pub index-requires : goal.index-requires
index-requires c =
    let spaces = c.args.self.now.spaces in
    let vecs = c.self.inside.owners.items in
    let are = subst (λ (layout : Hierarchy). AreOfCells layout.spaces (owner_of layout.spaces) (rows_of vecs)) c.self.view_is c.self.invariant.owned in
    omega (arith, row_there spaces (owner_of spaces) vecs are c.args.cell c.requires, c.self.inside.owners.ok.0)

pub index-requires-2 : goal.index-requires-2
index-requires-2 c =
    let spaces = c.args.self.now.spaces in
    let vecs = c.self.inside.owners.items in
    let are = subst (λ (layout : Hierarchy). AreOfCells layout.spaces (owner_of layout.spaces) (rows_of vecs)) c.self.view_is c.self.invariant.owned in
    omega (arith, number_there spaces (owner_of spaces) vecs are c.args.cell c.requires c.index.result.now c.index.ensures, c.index.result.now.ok.0)

pub returns : goal.returns
returns c =
    let spaces = c.args.self.now.spaces in
    let vecs = c.self.inside.owners.items in
    let are = subst (λ (layout : Hierarchy). AreOfCells layout.spaces (owner_of layout.spaces) (rows_of vecs)) c.self.view_is c.self.invariant.owned in
    number_is spaces (owner_of spaces) vecs are c.args.cell c.requires c.index.result.now c.index.ensures c.index-2.result.now c.index-2.ensures
