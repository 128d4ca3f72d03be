use Rattle.waff_cells.specs.Held.{rows_of}
use Rattle.waff_cells.proofs.Holdings.{parcel_sizes}
use Rattle.waff_board.proofs.Grants.{parcels_in, owned_in}
use Rattle.waff_board.proofs.tokens.Running.get.Goals as goal

pub get-requires : goal.get-requires
get-requires c =
    let token = c.self.inside in
    parcel_sizes c.parcel_table.result.now.spaces c.owners.result.now c.requires.0 (rows_of c.as_slice.result.now)
    (parcels_in token.hand token.message c.args.self.now token.job.now c.parcel_table.result.now c.owners.result.now c.as_slice.result.now
    c.self.view_is token.of c.parcel_table.ensures.layout c.owners.ensures.owners c.as_slice.ensures.value c.requires.0 c.requires.1)

pub returns-clause-held : goal.returns-clause-held
returns-clause-held c =
    let token = c.self.inside in
    owned_in token.hand token.message c.args.self.now token.job.now c.parcel_table.result.now c.owners.result.now c.args.cell c.get.result
    c.self.view_is token.of c.parcel_table.ensures.layout c.owners.ensures.owners c.get.ensures.owned

pub returns-clause-number : goal.returns-clause-number
returns-clause-number c = λ cells holds.
    let token = c.self.inside in
    c.get.ensures.number cells
    (parcels_in token.hand token.message c.args.self.now token.job.now c.parcel_table.result.now c.owners.result.now c.as_slice.result.now
    c.self.view_is token.of c.parcel_table.ensures.layout c.owners.ensures.owners c.as_slice.ensures.value cells holds)
