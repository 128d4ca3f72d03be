use Rattle.std.proofs.Common.{List, ◌++◌, take}
use Rattle.waff_model.specs.Cells.{cells_of}
use Rattle.waff_model.specs.declared.cell.Cell.{Cell}
use Rattle.waff_run.specs.Named.{AreEnds}
use Rattle.waff_run.proofs.spots.note_ends.Given as goal

abbrev pub invariant-loop-at : goal.invariant-loop-at
invariant-loop-at l = (cells : List Cell) → AreEnds l.places cells l.initial.ends → AreEnds l.places (cells ++ cells_of (take l.at l.ops)) l.ends
