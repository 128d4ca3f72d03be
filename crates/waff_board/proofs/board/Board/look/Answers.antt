use Rattle.std.proofs.Common.{length, arith, sym, ap, ◌∙◌, subst}
use Rattle.waff_core.specs.Job.{JobValue, IsIn}
use Rattle.waff_board.specs.Tokens.{BoardValue}
use Rattle.waff_board.proofs.Looks.{looks_at}
use Rattle.waff_board.proofs.board.Board.look.Goals as goal

pub load-word-requires : goal.load-word-requires
load-word-requires c =
    let board = c.self.inside in
    let chair = c.args.hand.chair in
    let words = board.words in
    let to = c.requires.number.to in (
      c.requires.of.0 ∙ sym (ap (λ (b : BoardValue). b.table) c.self.view_is),
      omega (arith, words, to, ap (λ (b : BoardValue). length b.job.ops) c.self.view_is),
      looks_at (λ parcel. parcel.items) board.table.shared.key board.table.shared.table_id.slots chair.id c.args.n chair.me.0 chair.me.1
          (subst (λ (job : JobValue). IsIn job c.args.n) (sym c.requires.of.1) c.requires.number),
    )
