use Rattle.std.proofs.Common.{◌++◌, ◌∙◌, ap}
use Rattle.waff_model.specs.Cells.{cells_of_op}
use Rattle.waff_model.proofs.OpCells.{cells_of_more}
use Rattle.waff_assign.proofs.assignment.push_cells.Goals as goal

pub loop-index-preserved : goal.loop-index-preserved
loop-index-preserved c =
    c.in_ok-push_cells_of_op.ensures
    ∙ ap (λ cells. cells ++ cells_of_op c.get.result) c.loop-index.invariant
    ∙ cells_of_more c.args.cells.now.items c.args.ops.now c.loop-index.index c.get.result c.get.ensures
