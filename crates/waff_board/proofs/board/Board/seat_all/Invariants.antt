use Rattle.std.proofs.Common.{◌≡◌, ◌+◌, ◌≤◌, [], length, vec_capacity, All}
use Rattle.waff_board.specs.Openings.{AreFresh}
use Rattle.waff_board.specs.Seats.{fresh}
use Rattle.waff_board.specs.Tokens.{IsOf}
use Rattle.waff_board.proofs.board.Board.seat_all.Given as goal

abbrev pub invariant-loop-made : goal.invariant-loop-made
invariant-loop-made l =
    (length l.seats.items + 1 ≡ l._made)
    × (l.chair.table_id ≡ l.self.table)
    × (l.chair.me ≡ (fresh l.self.job 1 l._made, []))
    × All (IsOf l.self) l.seats.items
    × AreFresh 2 l.seats.items
    × (l.self.seats ≤ vec_capacity l.seats)
