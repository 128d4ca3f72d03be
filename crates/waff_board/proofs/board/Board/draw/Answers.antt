use Rattle.std.proofs.Common.{◌≡◌, ◌^◌, ◌<◌, ◌≤◌, Some, length, slice_get, arith, sym, ap, ◌∙◌, subst}
use Rattle.waff_core.specs.Job.{JobValue, IsIn}
use Rattle.waff_board.specs.Plays.{drawn_view}
use Rattle.waff_board.specs.Tokens.{BoardValue, Token}
use Rattle.waff_board.proofs.Draws.{draws}
use Rattle.waff_board.proofs.Numbers.{first_same, second_same, drawn_job, drawn_phase, ended_phase}
use Rattle.waff_board.proofs.Belonging.{of_board, same_table}
use Rattle.waff_board.proofs.board.Board.draw.Goals as goal

pub fetch_add-number-requires : goal.fetch_add-number-requires
fetch_add-number-requires c =
    let table = c.self.inside.table.shared in
    let words = c.self.inside.words in
    let chair = c.seat.inside.hand.chair in (
      same_table c.seat.view_is c.requires c.self.view_is,
      omega (arith, words),
      draws (λ parcel. parcel.items) table.key table.table_id.slots chair.id chair.me.0 chair.me.1 c.seat.inside.free,
    )

pub invariant_of-result : goal.invariant_of-result
invariant_of-result c =
    let V = c.args.seat.view in
    let W = c.fetch_add-number.new.seat.me.0 in
    let J = c.args.self.now.job in
    let p = c.fetch_add-number.result in
    let view : W ≡ drawn_view V p = first_same _ _ c.fetch_add-number.ensures.2 ∙ ap (λ (t : Token). drawn_view t.view p) c.seat.view_is in
    let job = drawn_job V W J p view c.requires.1 in (
      subst (λ (j : JobValue). IsIn j c.in-Some.message) (sym job) c.in-Some.ensures.some.0,
      (
        drawn_phase V W J p view c.requires.1 c.in-Some.message c.in-Some.ensures.drawn,
        (second_same _ _ c.fetch_add-number.ensures.2 ∙ c.seat.inside.empty, tt),
      ),
    )

pub invariant_of-result-in-None : goal.invariant_of-result-in-None
invariant_of-result-in-None c =
    let V = c.args.seat.view in
    let W = c.fetch_add-number.new.seat.me.0 in
    let J = c.args.self.now.job in
    let p = c.fetch_add-number.result in
    let view : W ≡ drawn_view V p = first_same _ _ c.fetch_add-number.ensures.2 ∙ ap (λ (t : Token). drawn_view t.view p) c.seat.view_is in
    let job = drawn_job V W J p view c.requires.1 in (
      ended_phase V W J p view c.requires.1 c.in-None.ensures.drawn,
      (
        second_same _ _ c.fetch_add-number.ensures.2 ∙ c.seat.inside.empty,
        (
          subst (λ (j : JobValue). length j.ops < 2 ^ 32) (ap (λ (b : BoardValue). b.job) c.self.view_is ∙ sym job) c.self.invariant.short,
          tt,
        ),
      ),
    )

pub returns-in-Some : goal.returns-in-Some
returns-in-Some c =
    let V = c.args.seat.view in
    let W = c.fetch_add-number.new.seat.me.0 in
    let p = c.fetch_add-number.result in
    let view : W ≡ drawn_view V p = first_same _ _ c.fetch_add-number.ensures.2 ∙ ap (λ (t : Token). drawn_view t.view p) c.seat.view_is in
    let table = (of_board c.args.self.now c.seat.view_is c.requires).0 in (
      p,
      subst (λ (j : JobValue). p < length j.ops) (sym c.requires.1) c.in-Some.ensures.some.1,
      subst (λ (j : JobValue). slice_get j.order p ≡ Some c.in-Some.message) (sym c.requires.1) c.in-Some.ensures.drawn,
      view,
      (c.fetch_add-number.ensures.0 ∙ table, drawn_job V W c.args.self.now.job p view c.requires.1),
    )

pub returns-in-None : goal.returns-in-None
returns-in-None c =
    let V = c.args.seat.view in
    let W = c.fetch_add-number.new.seat.me.0 in
    let p = c.fetch_add-number.result in
    let view : W ≡ drawn_view V p = first_same _ _ c.fetch_add-number.ensures.2 ∙ ap (λ (t : Token). drawn_view t.view p) c.seat.view_is in
    let table = (of_board c.args.self.now c.seat.view_is c.requires).0 in (
      p,
      subst (λ (j : JobValue). length j.ops ≤ p) (sym c.requires.1) c.in-None.ensures.none,
      view,
      (c.fetch_add-number.ensures.0 ∙ table, drawn_job V W c.args.self.now.job p view c.requires.1),
    )
