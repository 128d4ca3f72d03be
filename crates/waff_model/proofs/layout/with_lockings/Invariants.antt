use Rattle.std.proofs.Common.{◌≡◌, ◌++◌, drop}
use Rattle.waff_model.specs.Layout.{spaces_with}
use Rattle.waff_model.proofs.layout.with_lockings.Given as goal

abbrev pub invariant-loop-s : goal.invariant-loop-s
invariant-loop-s l = l.made.items ++ spaces_with (drop l.s l.spaces) (drop l.s l.lockings) ≡ spaces_with l.spaces l.lockings
