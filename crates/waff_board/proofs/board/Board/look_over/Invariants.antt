use Rattle.std.proofs.Common.{◌≡◌, take}
use Rattle.waff_board.specs.Calls.{LooksOver}
use Rattle.waff_board.specs.Hands.{IsHandOf}
use Rattle.waff_board.proofs.board.Board.look_over.Given as goal

abbrev pub invariant-loop-n : goal.invariant-loop-n
invariant-loop-n l =
    LooksOver l.fn.hand.chair.me.0 (take l.n-index l.messages) l.hand.chair.me.0
    × (l.hand.chair.me.1 ≡ l.fn.hand.chair.me.1)
    × IsHandOf l.self l.hand
