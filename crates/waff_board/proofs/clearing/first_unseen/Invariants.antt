use Rattle.std.proofs.Common.{◌≡◌, find, not, drop}
use Rattle.waff_board.specs.Seats.{has_seen}
use Rattle.waff_board.proofs.clearing.first_unseen.Given as goal

abbrev pub invariant-loop-n : goal.invariant-loop-n
invariant-loop-n l =
    find (λ n. not (has_seen l.hand.chair.me.0 n)) l.needs ≡ find (λ n. not (has_seen l.hand.chair.me.0 n)) (drop l.n-index l.needs)
