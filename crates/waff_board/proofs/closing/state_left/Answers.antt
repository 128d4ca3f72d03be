use Rattle.std.proofs.Common.{length, sym, ap, ◌∙◌, subst}
use Rattle.waff_model.specs.Layout.{Hierarchy, IsCell}
use Rattle.waff_model.specs.Messages.{sizes_of}
use Rattle.waff_cells.specs.Gathered.{cells_of_parcels}
use Rattle.waff_cells.specs.Grid.{HasSizes}
use Rattle.waff_cells.specs.Held.{rows_of}
use Rattle.waff_board.proofs.Outside.{everywhere}
use Rattle.waff_board.proofs.closing.state_left.Goals as goal

pub returns-in-Ok-clause-cells : goal.returns-in-Ok-clause-cells
returns-in-Ok-clause-cells c =
    let job = c.args.job.now in
    let state = c.in-Ok.state in
    everywhere job c.requires.job state (length job.ops)
    (subst (λ (h : Hierarchy). HasSizes state (sizes_of h.spaces)) c.parcel_table.ensures.layout c.in-Ok.ensures.sizes)
    (λ cell is_cell.
    c.in-Ok.ensures.cells cell (subst (λ (h : Hierarchy). IsCell h.spaces cell) (sym c.parcel_table.ensures.layout) is_cell)
    ∙ ap (λ (h : Hierarchy). cells_of_parcels h.spaces (rows_of c.deref.result.now) cell) c.parcel_table.ensures.layout
    ∙ ap (λ rows. cells_of_parcels job.layout.spaces (rows_of rows) cell) c.deref.ensures.value
    ∙ c.in_ok-parcels.ensures.cells cell is_cell)
