use Rattle.waff_board.specs.Tokens.{IsOf}
use Rattle.waff_replay.proofs.work.Worker.wait_until_clear.Given as goal

abbrev pub invariant-loop : goal.invariant-loop
invariant-loop g l =
    (goal.iterator-loop g).can_next l.iterator' × (goal.iterator-loop g).is_finite l.iterator'
    × IsOf l.self.board.now l.drawn
