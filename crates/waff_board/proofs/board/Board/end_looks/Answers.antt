use Rattle.std.proofs.Common.{◌≡◌, ◌-◌, ◌+◌, ◌^◌, ◌<◌, length, arith, ap, sym, ◌∙◌, subst}
use Rattle.waff_core.specs.Job.{JobValue}
use Rattle.waff_board.specs.Endings.{LookedUpTo}
use Rattle.waff_board.specs.Tokens.{BoardValue, Token}
use Rattle.waff_board.specs.declared.view.View.{View}
use Rattle.waff_board.proofs.Sweeps.{over_start, over_more, over_alone}
use Rattle.waff_board.proofs.Belonging.{of_board}
use Rattle.waff_board.proofs.board.Board.end_looks.Goals as goal

pub loop-n-init : goal.loop-n-init
loop-n-init c = (
  subst (λ (t : Token). LookedUpTo 0 t.view c.seat.inside.hand.chair.me.0) c.seat.view_is (over_start c.seat.inside.hand.chair.me.0),
  c.seat.inside.empty,
  of_board c.args.self.now c.seat.view_is c.requires,
)

pub loop-n-preserved : goal.loop-n-preserved
loop-n-preserved c =
    let v = c.args.seat.view in
    let n = c.loop-n.n in
    let inv = c.loop-n.invariant in (
      over_more (n - 1) (n + 1 - 1) v c.loop-n.hand.chair.me.0 c.look-hand.result.chair.me.0 n (omega arith) (omega arith) inv.0 c.look-hand.ensures.view,
      c.look-hand.ensures.held ∙ inv.1,
      c.look-hand.ensures.of,
    )

pub invariant_of-result : goal.invariant_of-result
invariant_of-result c =
    let v = c.args.seat.view in
    let w = c.loop-n.hand.chair.me.0 in
    let inv = c.loop-n.invariant in
    let job : w.job ≡ v.job = inv.2.1 ∙ sym c.requires.1 in (
      ap (λ (u : View). u.phase) (over_alone (c.loop-n.n - 1) v w inv.0)
          ∙ sym (ap (λ (t : Token). t.view.phase) c.seat.view_is) ∙ c.seat.inside.ended,
      (
        inv.1,
        (
          subst (λ (j : JobValue). length j.ops < 2 ^ 32) (ap (λ (t : Token). t.view.job) c.seat.view_is ∙ sym job) c.seat.inside.short,
          tt,
        ),
      ),
    )

pub returns-clause-looks : goal.returns-clause-looks
returns-clause-looks c =
    let v = c.args.seat.view in
    let ops : length v.job.ops ≡ length c.self.inside.setup.job.ops
    = ap (λ (j : JobValue). length j.ops) (c.requires.1 ∙ sym (ap (λ (b : BoardValue). b.job) c.self.view_is)) in
    let count : c.loop-n.n - 1 ≡ length v.job.ops
    = omega (arith, c.loop-n-test.false, c.loop-n.auto, c.len-n-end.ensures.count, ops) in
    subst (λ k. LookedUpTo k v c.loop-n.hand.chair.me.0) count c.loop-n.invariant.0
