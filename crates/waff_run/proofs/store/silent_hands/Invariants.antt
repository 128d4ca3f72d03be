use Rattle.std.proofs.Common.{◌≡◌, length}
use Rattle.std.specs.Prelude.{All, IsSome}
use Rattle.waff_run.proofs.store.silent_hands.Given as goal

abbrev pub invariant-loop-at : goal.invariant-loop-at
invariant-loop-at l = (length l.hands.items ≡ l.at) × All IsSome l.hands.items
