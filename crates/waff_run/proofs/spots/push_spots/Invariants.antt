use Rattle.std.proofs.Common.{◌≡◌, ◌++◌, map, take}
use Rattle.waff_model.specs.Cells.{cells_of}
use Rattle.waff_run.specs.Places.{spot_of}
use Rattle.waff_run.proofs.spots.push_spots.Given as goal

abbrev pub invariant-loop-at : goal.invariant-loop-at
invariant-loop-at l = l.spots.items ≡ l.initial.spots.items ++ map (spot_of l.places) (cells_of (take l.at l.ops))
