use Rattle.std.proofs.Common.{◌≡◌, ℕ, ◌+◌, List, Vec, Global, length, arith, sym, ap, ◌∙◌, subst}
use Rattle.atomic_table.specs.Table.{Me}
use Rattle.waff_cells.specs.Held.{rows_of}
use Rattle.waff_cells.specs.Serial.{serial}
use Rattle.waff_cells.specs.Parcel.{AreParcels}
use Rattle.waff_core.specs.Job.{JobValue, owners_of}
use Rattle.waff_board.specs.Hands.{rows_at}
use Rattle.waff_board.specs.Plays.{finished_view}
use Rattle.waff_board.specs.Seats.{has_seen}
use Rattle.waff_board.specs.Tokens.{BoardValue, HoldsAfter}
use Rattle.waff_board.specs.declared.view.View.{View}
use Rattle.waff_board.proofs.Finishes.{finishes_at}
use Rattle.waff_board.proofs.Rows.{parcels_from}
use Rattle.waff_board.proofs.Grants.{marks_finished}
use Rattle.waff_board.proofs.board.Board.finish.Goals as goal

pub store-requires : goal.store-requires
store-requires c =
    let table = c.self.inside.table.shared in
    let words = c.self.inside.words in
    let running = c.running.inside in
    let chair = c.swap-hand.result.chair in
    let W = chair.me.0 in
    let m = running.message in
    let f : Vec ℕ Global → List ℕ = λ parcel. parcel.items in
    let view : W ≡ running.hand.chair.me.0 = c.swap-hand.ensures.view in
    let of = c.swap-hand.ensures.of in
    let to = running.within.to in
    let ops = ap (λ (j : JobValue). length j.ops) (running.of ∙ sym (ap (λ (u : View). u.job) view) ∙ of.1
    ∙ sym (ap (λ (b : BoardValue). b.job) c.self.view_is)) in
    let rows = rows_of running.hand.parcels.items in (
      of.0 ∙ sym (ap (λ (b : BoardValue). b.table) c.self.view_is),
      omega (arith, words, ops, to),
      finishes_at f table.key table.table_id.slots chair.id m W chair.me.1 (ap (λ (u : View). u.phase) view ∙ running.running)
          (parcels_from f W.job.layout.spaces (serial W.job.ops m) (owners_of W.job.owners m) chair.me.1 rows
          (c.swap-hand.ensures.held ∙ sym (ap (λ (j : JobValue). owners_of j.owners m) of.1))
          (c.swap-hand.ensures.slots ∙ sym (ap (λ (j : JobValue). rows_at rows (owners_of j.owners m)) of.1))
          (subst (λ (u : View). AreParcels u.job.layout.spaces (owners_of u.job.owners m) (serial u.job.ops m) rows) (sym view)
          (subst HoldsAfter (sym c.running.view_is) c.finished.inside.after))),
    )

pub invariant_of-hand-clause-marks : goal.invariant_of-hand-clause-marks
invariant_of-hand-clause-marks c = λ n within.
    let hand = c.swap-hand.result in
    let W = hand.chair.me.0 in
    let view : c.store.new.seat.me.0 ≡ finished_view W c.running.inside.message = ap (λ (me : Me (Vec ℕ Global) View). me.0) c.store.ensures.2 in
    let ops = ap (λ (u : View). length u.job.ops) view in
    let count = hand.count in
    let ok = hand.seen.ok in
    let to = c.running.inside.within.to in
    let few = ap (λ (j : JobValue). length j.ops) (c.running.inside.of ∙ sym (ap (λ (u : View). u.job) c.swap-hand.ensures.view)) in
    marks_finished W hand.seen.items (length W.job.ops + 1) c.running.inside.message n (omega (arith, ok, count)) hand.marks
    (omega (arith, to, few)) (omega (arith, within, ops))
    ∙ ap (λ (u : View). has_seen u n) (sym view)
