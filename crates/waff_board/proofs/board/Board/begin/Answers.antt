use Rattle.std.proofs.Common.{ℕ, ◌-◌, Vec, Global, length, arith, sym, ap, ◌∙◌, subst}
use Rattle.waff_cells.specs.Held.{rows_of}
use Rattle.waff_cells.specs.Serial.{serial}
use Rattle.waff_cells.specs.Parcel.{AreParcels}
use Rattle.waff_core.specs.Job.{JobValue, owners_of}
use Rattle.waff_board.specs.Hands.{rows_at}
use Rattle.waff_board.specs.Tokens.{SeesNeeds}
use Rattle.waff_board.specs.declared.view.View.{View}
use Rattle.waff_board.proofs.Begins.{begins_with}
use Rattle.waff_board.proofs.Swapping.{names_of}
use Rattle.waff_board.proofs.Rows.{parcels_at}
use Rattle.waff_board.proofs.Belonging.{of_board, same_table, same_job}
use Rattle.waff_board.proofs.board.Board.begin.Goals as goal

pub store-requires : goal.store-requires
store-requires c =
    let table = c.self.inside.table.shared in
    let drawn = c.drawn.inside in
    let chair = drawn.hand.chair in
    let words = c.self.inside.words in
    let to = drawn.within.to in
    let is = c.drawn.view_is ∙ c.cleared.view_is in (
      same_table is c.requires c.self.view_is,
      omega (arith, words, to, ap (λ (j : JobValue). length j.ops) (same_job is c.requires c.self.view_is)),
      begins_with (λ (parcel : Vec ℕ Global). parcel.items) table.key table.table_id.slots chair.id drawn.message chair.me.0 chair.me.1
          drawn.empty drawn.drawn (subst SeesNeeds (sym c.drawn.view_is) c.cleared.inside.clear),
    )

pub swap-hand-requires-clause-held : goal.swap-hand-requires-clause-held
swap-hand-requires-clause-held c =
    names_of (λ (parcel : Vec ℕ Global). parcel.items) _ _ _ c.store.new.seat.me.1 c.store.ensures.2.1
    ∙ ap (λ (j : JobValue). owners_of j.owners c.drawn.inside.message) (of_board c.args.self.now (c.drawn.view_is ∙ c.cleared.view_is) c.requires).1

pub invariant_of-result-2 : goal.invariant_of-result-2
invariant_of-result-2 c =
    let v = c.drawn.inside.hand.chair.me.0 in
    let m = c.drawn.inside.message in
    let rows = rows_of c.swap-hand.result.parcels.items in
    let job = ap (λ (u : View). u.job) (c.swap-hand.ensures.view ∙ c.store.ensures.2.0) in
    let same = (of_board c.args.self.now (c.drawn.view_is ∙ c.cleared.view_is) c.requires).1 in (
      subst (λ (j : JobValue). AreParcels j.layout.spaces (owners_of j.owners m) (serial j.ops (m - 1)) rows) (sym job)
          (parcels_at (λ (parcel : Vec ℕ Global). parcel.items) v.job.layout.spaces (serial v.job.ops (m - 1)) (owners_of v.job.owners m)
          c.store.new.seat.me.1 rows c.store.ensures.2.1 (ap (λ (j : JobValue). rows_at rows (owners_of j.owners m)) same ∙ c.swap-hand.ensures.rows)),
      tt,
    )
