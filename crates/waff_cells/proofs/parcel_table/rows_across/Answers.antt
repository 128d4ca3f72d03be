use Rattle.std.proofs.Common.{◌≡◌, ℕ, ◌+◌, ◌<◌, ◌++◌, ◌∷◌, [], length, map, get_or, ap, sym, ◌∙◌, arith, subst, length-set}
use Rattle.std.specs.List.{range_with_len}
use Rattle.std.proofs.lemmas.List.{length-map}
use Rattle.std.proofs.lemmas.List.FromFn.{length-range_with_len, map-range_with_len_more}
use Rattle.waff_model.specs.declared.cell.Cell.{Cell}
use Rattle.waff_model.specs.Layout.{IsCell, owner_of}
use Rattle.waff_model.specs.Parcel.{cells_ahead, cells_before, offset_of, owned_among}
use Rattle.waff_model.proofs.ParcelLemmas.{owned_more, owned_few, ahead_of_next}
use Rattle.waff_cells.specs.ParcelTable.{AreCounted}
use Rattle.waff_cells.proofs.ParcelTables.{counted_more}
use Rattle.waff_cells.proofs.parcel_table.rows_across.Goals as goal

pub overflow_add-counts : goal.overflow_add-counts
overflow_add-counts c =
    let spaces = c.args.layout.now.spaces in
    let cell : Cell = record { space = c.args.s; index = c.loop-index.index } in
    let is_cell : IsCell spaces cell = omega (arith, c.space_size-size.ensures) in
    let owner = c.owner-owner.result.0 in
    let inside : owner < length c.loop-index.counts = omega (arith, c.owner-owner.ensures.within, c.loop-index.invariant.count) in
    omega (
      arith,
      c.loop-index.invariant.counted owner inside,
      owned_more spaces cell is_cell owner (sym c.owner-owner.ensures.owner),
      owned_few spaces (cells_ahead spaces c.args.s + (c.loop-index.index + 1)) owner,
      c.requires.few,
    )

pub loop-index-preserved : goal.loop-index-preserved
loop-index-preserved c =
    let spaces = c.args.layout.now.spaces in
    let index = c.loop-index.index in
    let cell : Cell = record { space = c.args.s; index = index } in
    let is_cell : IsCell spaces cell = omega (arith, c.space_size-size.ensures) in
    let owner = c.owner-owner.result.0 in
    let counts = c.loop-index.counts in
    let inside : owner < length counts = omega (arith, c.owner-owner.ensures.within, c.loop-index.invariant.count) in
    let owner_at : ℕ → ℕ = λ i. owner_of spaces (record { space = c.args.s; index = i }) in
    let offset_at : ℕ → ℕ = λ i. offset_of spaces (record { space = c.args.s; index = i }) in
    let offset : get_or counts owner 0 ≡ offset_at index
    = c.loop-index.invariant.counted owner inside ∙ ap (owned_among spaces (cells_before spaces cell)) c.owner-owner.ensures.owner in
    record {
      owners = c.push_reserved.ensures.items
          ∙ ap (λ xs. xs ++ owner ∷ []) c.loop-index.invariant.owners
          ∙ ap (λ n. map owner_at (range_with_len 0 index) ++ n ∷ []) c.owner-owner.ensures.owner
          ∙ sym (map-range_with_len_more owner_at 0 index index (omega arith));
      offsets = c.push_reserved-in-loop-index.ensures.items
          ∙ ap (λ xs. xs ++ get_or counts owner 0 ∷ []) c.loop-index.invariant.offsets
          ∙ ap (λ n. map offset_at (range_with_len 0 index) ++ n ∷ []) offset
          ∙ sym (map-range_with_len_more offset_at 0 index index (omega arith));
      count = length-set counts owner (get_or counts owner 0 + 1) ∙ c.loop-index.invariant.count;
      counted = counted_more spaces cell is_cell counts owner c.owner-owner.ensures.owner inside c.loop-index.invariant.counted;
      owners_room = c.push_reserved.ensures.capacity ∙ c.loop-index.invariant.owners_room;
      offsets_room = c.push_reserved-in-loop-index.ensures.capacity ∙ c.loop-index.invariant.offsets_room;
    }

pub returns-clause-counted : goal.returns-clause-counted
returns-clause-counted c =
    let spaces = c.args.layout.now.spaces in
    let all : cells_ahead spaces c.args.s + c.loop-index.index ≡ cells_ahead spaces (c.args.s + 1)
    = omega (arith, ahead_of_next spaces c.args.s c.requires.space, c.space_size-size.ensures) in
    subst (λ k. AreCounted spaces k c.loop-index.counts) all c.loop-index.invariant.counted

pub push_reserved-requires : goal.push_reserved-requires
push_reserved-requires c =
    let owner_at : ℕ → ℕ = λ i. owner_of c.args.layout.now.spaces (record { space = c.args.s; index = i }) in
    let index = c.loop-index.index in
    let long = ap length c.loop-index.invariant.owners ∙ length-map (range_with_len 0 index) owner_at ∙ length-range_with_len 0 index in
    omega (arith, long, c.loop-index.owners.ok.0, c.loop-index.invariant.owners_room, c.loop-index-test.true)

pub push_reserved-requires-in-loop-index : goal.push_reserved-requires-in-loop-index
push_reserved-requires-in-loop-index c =
    let offset_at : ℕ → ℕ = λ i. offset_of c.args.layout.now.spaces (record { space = c.args.s; index = i }) in
    let index = c.loop-index.index in
    let long = ap length c.loop-index.invariant.offsets ∙ length-map (range_with_len 0 index) offset_at ∙ length-range_with_len 0 index in
    omega (arith, long, c.loop-index.offsets.ok.0, c.loop-index.invariant.offsets_room, c.loop-index-test.true)
