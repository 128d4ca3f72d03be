use Rattle.std.proofs.Common.{◌≡◌, ℕ, List, Vec, Global, length, arith, sym, ap, subst}
use Rattle.std.proofs.lemmas.List.{with_items_is}
use Rattle.waff_cells.specs.Held.{rows_of}
use Rattle.waff_cells.specs.Serial.{serial}
use Rattle.waff_cells.specs.Parcel.{AreParcels}
use Rattle.waff_core.specs.Job.{JobValue, owners_of}
use Rattle.waff_board.specs.Tokens.{HoldsBefore}
use Rattle.waff_board.proofs.Grants.{cells_held, parcels_after, before_run, as_many}
use Rattle.waff_board.proofs.tokens.Grant.run.Goals as goal

pub run-requires : goal.run-requires
run-requires c =
    let token = c.running.inside in
    let job = token.job.now in
    record {
      held = cells_held job c.parcel_table.ensures.job token.message token.within c.parcel_table.result.now c.message.result.now.ops
          c.parcel_table.ensures.layout c.message.ensures.ops (rows_of c.as_mut_slice.result.now)
          (before_run token.hand.chair.me.0.job job token.message token.hand.parcels.items c.as_mut_slice.result.now
          token.of c.as_mut_slice.ensures.value (subst HoldsBefore (sym c.running.view_is) c.self.inside.before));
    }

pub invariant_of-result-2 : goal.invariant_of-result-2
invariant_of-result-2 c =
    let token = c.running.inside in
    let m = token.message in
    let job = token.job.now in
    let v = token.hand.chair.me.0 in
    let places = token.hand.parcels in
    let left = c.run.new.parcels in
    let ok = places.ok in
    let was = ap (λ (xs : List (Vec ℕ Global)). length xs) c.as_mut_slice.ensures.value in
    let long : length left ≡ places.len = omega (arith, as_many left c.as_mut_slice.result.now c.run.ensures.sizes, was, ok) in
    let after = parcels_after job c.parcel_table.ensures.job m token.within c.parcel_table.result.now c.message.result.now.ops
    c.parcel_table.ensures.layout c.message.ensures.ops (rows_of c.as_mut_slice.result.now)
    (before_run v.job job m places.items c.as_mut_slice.result.now token.of c.as_mut_slice.ensures.value
    (subst HoldsBefore (sym c.running.view_is) c.self.inside.before)) (rows_of left) c.run.ensures.parcels in (
      subst (λ (xs : List (Vec ℕ Global)). AreParcels v.job.layout.spaces (owners_of v.job.owners m) (serial v.job.ops m) (rows_of xs))
          (sym (with_items_is places left long))
          (subst (λ (j : JobValue). AreParcels j.layout.spaces (owners_of j.owners m) (serial j.ops m) (rows_of left)) token.of after),
      tt,
    )
