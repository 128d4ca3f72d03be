use Rattle.std.proofs.Common.{sym, subst}
use Rattle.waff_core.specs.Job.{StandOnce, IsIn}
use Rattle.waff_board.specs.Tokens.{BoardValue}
use Rattle.waff_board.proofs.board.Board.swap.Goals as goal

pub swap_all-requires-clause-once : goal.swap_all-requires-clause-once
swap_all-requires-clause-once c =
    subst (λ xs. StandOnce xs) (sym c.owners.ensures.owners)
    (c.self.invariant.job.owners c.args.message (subst (λ (b : BoardValue). IsIn b.job c.args.message) (sym c.self.view_is) c.requires.number)).once
