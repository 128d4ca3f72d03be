use Rattle.std.proofs.Common.{◌≡◌, ◌-◌, map, take}
use Rattle.waff_run.specs.Named.{cells_named}
use Rattle.waff_run.specs.Places.{spot_of}
use Rattle.waff_run.proofs.spots.all_spots.Given as goal

abbrev pub invariant-loop-m : goal.invariant-loop-m
invariant-loop-m l = l.spots.items ≡ map (spot_of l.places) (cells_named (take (l.m - 1) l.trace.messages))
