use Rattle.std.proofs.Common.{List, ℕ, sym, subst}
use Rattle.waff_cells.specs.Held.{rows_of}
use Rattle.waff_cells.specs.Meaning.{meaning}
use Rattle.waff_cells.specs.Parcel.{AreParcels}
use Rattle.waff_cells.proofs.RowRuns.{parcels_run}
use Rattle.waff_cells.proofs.parcels.run.Goals as goal

pub returns-clause-parcels : goal.returns-clause-parcels
returns-clause-parcels c = λ owners cells owned parcels.
    let spaces = c.args.table.now.spaces in
    subst (λ (rows : List (List ℕ)). AreParcels spaces owners (meaning c.args.ops.now cells) rows) (sym c.run.ensures.rows)
    (parcels_run spaces owners c.args.ops.now owned cells (rows_of c.args.parcels.now) parcels)
