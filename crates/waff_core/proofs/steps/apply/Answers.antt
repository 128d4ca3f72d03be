use Rattle.std.proofs.Common.{length, map, ◌∙◌, ap}
use Rattle.waff_model.specs.Cells.{cells_of}
use Rattle.waff_cells.specs.Grid.{cells_in}
use Rattle.waff_cells.specs.Meaning.{meaning}
use Rattle.waff_core.proofs.Owning.{cells_lie}
use Rattle.waff_core.proofs.steps.apply.Goals as goal

pub apply-requires : goal.apply-requires
apply-requires c =
    cells_lie (map length c.args.state.now) c.args.job.now.layout.spaces (cells_of c.message.result.now.ops) c.requires.rows c.message.ensures.cells

pub returns-clause-cells : goal.returns-clause-cells
returns-clause-cells c = λ i cell.
    (c.apply.ensures.cells cell ∙ ap (λ ops. meaning ops (cells_in c.args.state.now) cell) c.message.ensures.ops) i
