use Rattle.std.proofs.Common.{◌≡◌, take}
use Rattle.waff_model.specs.Layout.{names_of}
use Rattle.waff_read.proofs.space_table.space_names.Given as goal

abbrev pub invariant-loop-s : goal.invariant-loop-s
invariant-loop-s l = l.names ≡ names_of (take l.s l.layout.spaces)
