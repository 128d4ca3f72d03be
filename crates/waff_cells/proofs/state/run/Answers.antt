use Rattle.std.proofs.Common.{◌∙◌, ap}
use Rattle.waff_cells.specs.Grid.{cells_in}
use Rattle.waff_cells.specs.Held.{rows_of}
use Rattle.waff_cells.proofs.InRows.{ops_leave}
use Rattle.waff_cells.proofs.state.run.Goals as goal

pub returns-clause-cells : goal.returns-clause-cells
returns-clause-cells c = λ cell.
    ap (λ rows. cells_in rows cell) c.run.ensures.rows ∙ ops_leave c.args.ops.now (rows_of c.args.spaces.now) c.requires cell
