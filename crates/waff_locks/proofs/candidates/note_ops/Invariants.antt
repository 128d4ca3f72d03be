use Rattle.std.proofs.Common.{◌≡◌, ℕ, ◌<◌, ◌||◌, false, get_or, length, take}
use Rattle.waff_locks.specs.Candidates.{ops_name}
use Rattle.waff_locks.proofs.candidates.note_ops.Given as goal

abbrev pub invariant-loop-index : goal.invariant-loop-index
invariant-loop-index l = record {
  count : length l.named.items ≡ length l.initial.named.items;
  each : (s : ℕ) → s < length l.initial.named.items
      → get_or l.named.items s false ≡ (get_or l.initial.named.items s false || ops_name (take l.index l.ops) s);
}
