use Rattle.std.proofs.Common.{◌≡◌, drop, length}
use Rattle.waff_locks.specs.Candidates.{locked_too}
use Rattle.waff_locks.proofs.candidates.locked_too.Given as goal

abbrev pub invariant-loop-i : goal.invariant-loop-i
invariant-loop-i l = record {
  count : length l.locked.items ≡ length l.lockings;
  rest : locked_too l.kind (drop l.i l.spaces) l.locked.items ≡ locked_too l.kind l.spaces l.lockings;
}
