use Rattle.std.proofs.Common.{◌≡◌, ℕ, ◌+◌, List, [], ◌∷◌, ◌++◌, length, Vec, Global, arith, sym, ap, ◌∙◌, subst}
use Rattle.std.proofs.lemmas.List.{length_push}
use Rattle.std.proofs.lemmas.List.Elements.{All-push, All-same}
use Rattle.atomic_table.specs.Table.{Me}
use Rattle.waff_board.specs.Openings.{AreFresh}
use Rattle.waff_board.specs.Plays.{made_view, next_view}
use Rattle.waff_board.specs.Seats.{fresh}
use Rattle.waff_board.specs.Tokens.{BoardValue, IsOf}
use Rattle.waff_board.specs.declared.tokens.Seat.{Seat}
use Rattle.waff_board.specs.declared.view.Setup.{Setup}
use Rattle.waff_board.specs.declared.view.View.{View}
use Rattle.waff_board.proofs.Makings.{fresh_is, fresh_more}
use Rattle.waff_board.proofs.Numbers.{first_same}
use Rattle.waff_board.proofs.Splits.{splits}
use Rattle.waff_board.proofs.board.Board.seat_all.Goals as goal

pub split_seat-next-requires : goal.split_seat-next-requires
split_seat-next-requires c =
    let board = c.self.inside in
    let chair = c.loop-made.chair in
    let inv = c.loop-made.invariant in
    let view : chair.me.0 ≡ fresh c.args.self.now.job 1 c.loop-made._made = first_same _ _ inv.2 in
    let made : chair.me.0.made ≡ c.loop-made._made = ap (λ (v : View). v.made) view in
    let told : board.table.shared.key.seats ≡ board.setup.seats = ap (λ (s : Setup). s.seats) board.told in
    let words = board.words in (
      inv.1 ∙ sym (ap (λ (b : BoardValue). b.table) c.self.view_is),
      omega (arith, words),
      splits (λ (p : Vec ℕ Global). p.items) board.table.shared.key chair.id chair.me.0 (ap (λ (v : View). v.actor) view)
          (omega (arith, c.loop-made-test.true, made, told)),
    )

pub loop-made-preserved : goal.loop-made-preserved
loop-made-preserved c =
    let board = c.args.self.now in
    let job = board.job in
    let n = c.loop-made._made in
    let inv = c.loop-made.invariant in
    let split = c.split_seat-next.ensures in
    let seat = c.in_ok-seat.field-0 in
    let items = c.loop-made.seats.items in
    let pushed : c.push_reserved.new.self.items ≡ items ++ seat ∷ [] = c.push_reserved.ensures.items in
    let view : c.loop-made.chair.me.0 ≡ fresh job 1 n = first_same _ _ inv.2 in
    let next : seat.view ≡ fresh job (n + 1) 0 = c.in_ok-seat.ensures.view ∙ first_same _ _ split.4 ∙ ap next_view view in
    let of : IsOf board seat = (c.in_ok-seat.ensures.table ∙ split.3 ∙ inv.1, ap (λ (v : View). v.job) next) in
    let long : length c.push_reserved.new.self.items ≡ length items + 1 = ap length pushed ∙ length_push items seat in
    let before = inv.0 in (
      omega (arith, long, before),
      split.0 ∙ inv.1,
      split.2 ∙ ap (λ (me : Me (Vec ℕ Global) View). (made_view me.0, me.1)) inv.2,
      All-same (IsOf board) c.push_reserved.new.self.items (items ++ seat ∷ []) pushed
          (All-push (IsOf board) items seat inv.3 of),
      subst (λ (seats : List Seat). AreFresh 2 seats) (sym pushed)
          (fresh_more 2 (n + 1) items seat (omega (arith, before)) inv.4 (fresh_is job (n + 1) 0 seat.view next)),
      omega (arith, c.push_reserved.ensures.capacity, inv.5),
    )
