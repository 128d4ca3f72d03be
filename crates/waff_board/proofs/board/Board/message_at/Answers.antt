use Rattle.std.proofs.Common.{◌≡◌, ◌≤◌, IfNone, None, length, slice_get, arith, subst}
use Rattle.waff_board.specs.Tokens.{BoardValue}
use Rattle.waff_board.proofs.Numbers.{none_past, none_is_past}
use Rattle.waff_board.proofs.board.Board.message_at.Goals as goal

pub returns-then-number-len-clause-none : goal.returns-then-number-len-clause-none
returns-then-number-len-clause-none c =
    subst (λ (b : BoardValue). IfNone c.drawn_at.result (length b.job.ops ≤ c.args.number)) c.self.view_is
    (none_is_past c.self.inside.setup.job c.len.ensures.job c.args.number c.drawn_at.result c.drawn_at.ensures (omega arith))

pub returns-else-number-len-clause-drawn : goal.returns-else-number-len-clause-drawn
returns-else-number-len-clause-drawn c =
    subst (λ (b : BoardValue). slice_get b.job.order c.args.number ≡ None) c.self.view_is
    (none_past c.self.inside.setup.job c.len.ensures.job c.args.number (omega arith))
