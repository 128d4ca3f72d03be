use Rattle.std.proofs.Common.{◌≡◌, ℕ, ◌-◌, ◌<◌, false, get_or, length, take}
use Rattle.waff_locks.specs.Candidates.{name_space}
use Rattle.waff_locks.proofs.candidates.named_spaces.Given as goal

abbrev pub invariant-loop-n : goal.invariant-loop-n
invariant-loop-n l = record {
  count : length l.named.items ≡ l.fn.count;
  each : (s : ℕ) → s < l.fn.count → get_or l.named.items s false ≡ name_space (take (l.n - 1) l.trace.messages) s;
}
