use Rattle.std.proofs.Common.{◌-◌, take}
use Rattle.waff_run.specs.Named.{AreEnds, cells_named}
use Rattle.waff_run.proofs.spots.ends.Given as goal

abbrev pub invariant-loop-m : goal.invariant-loop-m
invariant-loop-m l = AreEnds l.places (cells_named (take (l.m - 1) l.trace.messages)) l.ends.items
