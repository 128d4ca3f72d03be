use Rattle.std.proofs.Common.{◌≤◌, take}
use Rattle.waff_model.specs.Cells.{cells_of}
use Rattle.waff_limits.specs.Runs.{AreOfRun}
use Rattle.waff_limits.proofs.runs.run_of.Given as goal

abbrev pub invariant-loop-index : goal.invariant-loop-index
invariant-loop-index l = record {
  cells : AreOfRun (cells_of (take l.index l.ops)) l.run;
  filled : l.run.first ≤ l.run.last;
}
