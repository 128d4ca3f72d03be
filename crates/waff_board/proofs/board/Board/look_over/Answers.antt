use Rattle.std.proofs.Common.{◌≡◌, ℕ, ◌+◌, MatchBool, get_or, take, sym, ◌∙◌, subst, refl}
use Rattle.waff_core.specs.Job.{JobValue, IsIn}
use Rattle.waff_board.specs.Calls.{Looked, LooksOver}
use Rattle.waff_board.specs.Hands.{IsHandOf}
use Rattle.waff_board.specs.Seats.{has_seen}
use Rattle.waff_board.specs.declared.hand.Hand.{Hand}
use Rattle.waff_board.proofs.Lookings.{looks_next}
use Rattle.waff_board.proofs.board.Board.look_over.Goals as goal
use Rattle.waff_board.proofs.board.Board.look_over.Goals.{then-not-sees, else-not-sees}

pub sees-requires : goal.sees-requires
sees-requires c =
    subst (λ (j : JobValue). IsIn j (get_or c.args.messages.now c.loop-n.n-index 0)) (sym c.loop-n.invariant.2.1)
    (c.requires.known c.loop-n.n-index 0 c.loop-n-test.true)

pub loop-n-preserved : goal.loop-n-preserved
loop-n-preserved c =
    let v = c.args.hand.chair.me.0 in
    let before = c.loop-n.hand in
    let messages = c.args.messages.now in
    let k = c.loop-n.n-index in
    let n : ℕ = get_or messages k 0 in
    let inv = c.loop-n.invariant in
    let tells : has_seen before.chair.me.0 n ≡ c.sees.result = sym c.sees.ensures in
    elim c.if-not-sees.branch [
      | then-not-sees w ↦
          subst (λ (h : Hand). LooksOver v (take (k + 1) messages) h.chair.me.0 × (h.chair.me.1 ≡ c.args.hand.chair.me.1) × IsHandOf c.args.self.now h)
          (sym w.hand-is) (
            looks_next v before.chair.me.0 w.look-hand.result.chair.me.0 messages k c.loop-n-test.true inv.0
                (subst (λ b. MatchBool b (w.look-hand.result.chair.me.0 ≡ before.chair.me.0) (Looked before.chair.me.0 n w.look-hand.result.chair.me.0))
                (sym (tells ∙ w.if-not-sees.true)) w.look-hand.ensures.view),
            w.look-hand.ensures.held ∙ inv.1,
            w.look-hand.ensures.of,
          )
      | else-not-sees w ↦
          subst (λ (h : Hand). LooksOver v (take (k + 1) messages) h.chair.me.0 × (h.chair.me.1 ≡ c.args.hand.chair.me.1) × IsHandOf c.args.self.now h)
          (sym w.hand-is) (
            looks_next v before.chair.me.0 before.chair.me.0 messages k c.loop-n-test.true inv.0
                (subst (λ b. MatchBool b (before.chair.me.0 ≡ before.chair.me.0) (Looked before.chair.me.0 n before.chair.me.0))
                (sym (tells ∙ w.if-not-sees.false)) refl),
            inv.1,
            inv.2,
          )
    ]
