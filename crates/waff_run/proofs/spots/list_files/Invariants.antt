use Rattle.std.proofs.Common.{◌≡◌, map, take}
use Rattle.waff_run.specs.declared.places.Spot.{Spot}
use Rattle.waff_run.proofs.spots.list_files.Given as goal

abbrev pub invariant-loop-at : goal.invariant-loop-at
invariant-loop-at l = l.files.items ≡ map (λ (spot : Spot). spot.file) (take l.at l.spots)
