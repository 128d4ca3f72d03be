use Rattle.std.proofs.Common.{◌≡◌, ◌≤◌, length, vec_capacity}
use Rattle.waff_replay.proofs.sleepers.Sleepers.new.Given as goal

abbrev pub invariant-loop-made : goal.invariant-loop-made
invariant-loop-made l = (length l.places.items ≡ l._made) × (l.workers ≤ vec_capacity l.places)
