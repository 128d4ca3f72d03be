-- What a token of a board shares with the board.
use Rattle.std.proofs.Common.{◌≡◌, sym, ap, ◌∙◌}
use Rattle.waff_board.specs.Tokens.{BoardValue, Token, IsOf}

pub of_board : {one token : Token} (board : BoardValue) → one ≡ token → IsOf board token → IsOf board one
of_board board is of = (ap (λ (t : Token). t.table) is ∙ of.0, ap (λ (t : Token). t.view.job) is ∙ of.1)

module _ {one token : Token} {inner board : BoardValue} (is : one ≡ token) (of : IsOf board token)
    (self : inner ≡ board) where
  pub same_table : one.table ≡ inner.table
  same_table = (of_board board is of).0 ∙ sym (ap (λ (b : BoardValue). b.table) self)

  pub same_job : one.view.job ≡ inner.job
  same_job = (of_board board is of).1 ∙ sym (ap (λ (b : BoardValue). b.job) self)
