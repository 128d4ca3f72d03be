use Rattle.std.proofs.Common.{[], take, subst}
use Rattle.waff_model.specs.Cells.{cells_of}
use Rattle.waff_model.proofs.OpCells.{cells_of_more}
use Rattle.waff_limits.specs.Runs.{AreOfRun}
use Rattle.waff_limits.proofs.runs.run_of.Goals as goal

pub loop-index-preserved : goal.loop-index-preserved
loop-index-preserved c =
    let ops = c.args.ops.now in
    let longer = c.in-Some-longer.longer in
    record {
      cells = subst (λ cs. AreOfRun cs longer) (cells_of_more [] ops c.loop-index.index c.get-in-loop-index.result c.get-in-loop-index.ensures)
          (c.in-Some-longer.ensures.longer (cells_of (take c.loop-index.index ops)) c.loop-index.invariant.cells);
      filled = c.in-Some-longer.ensures.filled;
    }
