use Rattle.waff_board.specs.Tokens.{IsOf}
use Rattle.test_threads.proofs.boards.run_next.Given as goal

abbrev pub invariant-loop : goal.invariant-loop
invariant-loop g l = IsOf l.board l.seat
