use Rattle.std.proofs.Common.{◌≡◌, map, take}
use Rattle.waff_model.specs.LayoutOf.{space_of}
use Rattle.waff_model.proofs.layout.spaces_of.Given as goal

abbrev pub invariant-loop-space : goal.invariant-loop-space
invariant-loop-space l = l.made.items ≡ map (space_of l.format l.tree l.maps) (take l.space-index l.spaces)
