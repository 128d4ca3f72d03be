use Rattle.std.proofs.Common.{◌≡◌, ◌+◌, length, take}
use Rattle.std.specs.List.{flat_map}
use Rattle.waff_model.proofs.parts.Parts.get.Given as goal

-- the messages of the parts so far, and how many are left, are as many as the place
abbrev pub invariant-loop-part : goal.invariant-loop-part
invariant-loop-part l = length (flat_map (λ part. part.items) (take l.part-index l.part-items)) + l.left ≡ l.place
