use Rattle.std.proofs.Common.{◌≡◌, ◌-◌, []}
use Rattle.waff_board.specs.Endings.{LookedUpTo}
use Rattle.waff_board.specs.Hands.{IsHandOf}
use Rattle.waff_board.proofs.board.Board.end_looks.Given as goal

abbrev pub invariant-loop-n : goal.invariant-loop-n
invariant-loop-n l =
    LookedUpTo (l.n - 1) l.fn.seat.view l.hand.chair.me.0
    × (l.hand.chair.me.1 ≡ [])
    × IsHandOf l.self l.hand
