use Rattle.std.proofs.Common.{◌≡◌, ℕ, ◌%◌, ◌<◌, slice_index, length}
use Rattle.std.specs.Int.{to_le_bytes, w64}
use Rattle.waff_run.proofs.perform.repeat.Given as goal

abbrev pub invariant-loop-at : goal.invariant-loop-at
invariant-loop-at l =
    (length l.bytes ≡ length l.initial.bytes)
    × ((i : ℕ) → i < l.at → slice_index l.bytes i ≡ slice_index (to_le_bytes w64 l.value) (i % 8))
