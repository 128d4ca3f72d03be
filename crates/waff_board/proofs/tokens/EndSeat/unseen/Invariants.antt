use Rattle.std.proofs.Common.{ℕ, ◌<◌, ◌≤◌}
use Rattle.waff_board.specs.Seats.{HasSeen}
use Rattle.waff_board.proofs.tokens.EndSeat.unseen.Given as goal

abbrev pub invariant-loop-n : goal.invariant-loop-n
invariant-loop-n l = (m : ℕ) → 1 ≤ m → m < l.n → HasSeen l.self.view m
