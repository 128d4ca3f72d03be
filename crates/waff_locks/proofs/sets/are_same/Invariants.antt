use Rattle.std.proofs.Common.{◌≡◌, take}
use Rattle.waff_locks.proofs.sets.are_same.Given as goal

abbrev pub invariant-loop-i : goal.invariant-loop-i
invariant-loop-i l = take l.i l.lockings ≡ take l.i l.others
