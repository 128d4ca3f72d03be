use Rattle.std.proofs.Common.{◌≡◌, take}
use Rattle.waff_assign.specs.Uses.{seen_in}
use Rattle.waff_assign.proofs.uses.list_uses.Given as goal

abbrev pub invariant-loop-index : goal.invariant-loop-index
invariant-loop-index l = l.seen.items ≡ seen_in l.layout.spaces l.locks (take l.index l.ops)
