use Rattle.std.proofs.Common.{◌≡◌, length}
use Rattle.waff_board.proofs.opening.empty_rows.Given as goal

abbrev pub invariant-loop-row : goal.invariant-loop-row
invariant-loop-row l = length l.rows.items ≡ l._row
