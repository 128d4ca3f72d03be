use Rattle.std.proofs.Common.{◌≡◌, None, find, not, sym, ap, ◌∙◌, subst}
use Rattle.waff_board.specs.Seats.{has_seen}
use Rattle.waff_board.specs.Tokens.{BoardValue}
use Rattle.waff_board.proofs.Lookings.{drawn_still, all_seen}
use Rattle.waff_board.proofs.board.Board.clear.Goals as goal

pub invariant_of-result : goal.invariant_of-result
invariant_of-result c =
    let drawn = c.drawn.inside in
    let still = drawn_still drawn.hand.chair.me.0 c.look_over-hand.result.chair.me.0 c.needs-needs.result.now drawn.message
    c.look_over-hand.ensures.looks drawn.within drawn.drawn in
    (still.0, (still.1, (c.look_over-hand.ensures.held ∙ drawn.empty, tt)))

pub invariant_of-result-in-None : goal.invariant_of-result-in-None
invariant_of-result-in-None c =
    let drawn = c.drawn.inside in
    let still = drawn_still drawn.hand.chair.me.0 c.look_over-hand.result.chair.me.0 c.needs-needs.result.now drawn.message
    c.look_over-hand.ensures.looks drawn.within drawn.drawn in
    (still.0, (still.1, (c.look_over-hand.ensures.held ∙ drawn.empty, tt)))

pub invariant_of-result-in-None-2 : goal.invariant_of-result-in-None-2
invariant_of-result-in-None-2 c =
    let J = c.self.inside.setup.job in
    let W = c.look_over-hand.result.chair.me.0 in (
      all_seen J c.drawn.inside.message W (c.look_over-hand.ensures.of.1 ∙ sym (ap (λ (b : BoardValue). b.job) c.self.view_is))
          (subst (λ xs. find (λ n. not (has_seen W n)) xs ≡ None) c.needs-needs.ensures.needs (sym c.in-None.ensures)),
      tt,
    )
