use Rattle.std.proofs.Common.{◌≡◌, filter}
use Rattle.std.specs.List.{range_with_len}
use Rattle.waff_locks.proofs.Choosing.{is_one}
use Rattle.waff_locks.proofs.candidates.candidates.Given as goal

abbrev pub invariant-loop-s : goal.invariant-loop-s
invariant-loop-s l = l.spaces.items ≡ filter (is_one l.kind l.lockings l.named) (range_with_len 0 l.s)
