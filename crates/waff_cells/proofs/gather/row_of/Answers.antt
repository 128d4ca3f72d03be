use Rattle.std.proofs.Common.{ℕ, ◌++◌, ◌∷◌, [], length, map, ap, sym, subst, ◌∙◌, arith}
use Rattle.std.specs.List.{range_with_len}
use Rattle.std.proofs.lemmas.List.{length-map}
use Rattle.std.proofs.lemmas.List.FromFn.{length-range_with_len, map-range_with_len_more}
use Rattle.waff_model.specs.Layout.{Hierarchy, size_at}
use Rattle.waff_cells.specs.Held.{rows_of, number_at, IsWithin}
use Rattle.waff_cells.specs.Gathered.{cells_of_parcels}
use Rattle.waff_cells.proofs.gather.row_of.Goals as goal

pub loop-index-preserved : goal.loop-index-preserved
loop-index-preserved c =
    let f : ℕ → ℕ = λ i. cells_of_parcels c.args.table.now.spaces (rows_of c.args.parcels.now) (record { space = c.args.s; index = i }) in
    let index = c.loop-index.index in
    record {
      numbers = c.push_reserved.ensures.items
          ∙ ap (λ xs. xs ++ c.number_at.result ∷ []) c.loop-index.invariant.numbers
          ∙ ap (λ n. map f (range_with_len 0 index) ++ n ∷ []) (c.number_at.ensures ∙ ap (number_at (rows_of c.args.parcels.now)) c.address-at.ensures)
          ∙ sym (map-range_with_len_more f 0 index index (omega arith));
      room = c.push_reserved.ensures.capacity ∙ c.loop-index.invariant.room;
    }

pub push_reserved-requires : goal.push_reserved-requires
push_reserved-requires c =
    let f : ℕ → ℕ = λ i. cells_of_parcels c.args.table.now.spaces (rows_of c.args.parcels.now) (record { space = c.args.s; index = i }) in
    let index = c.loop-index.index in
    let long = ap length c.loop-index.invariant.numbers ∙ length-map (range_with_len 0 index) f ∙ length-range_with_len 0 index in
    omega (arith, long, c.loop-index.row.ok.0, c.loop-index.invariant.room, c.loop-index-test.true)

pub number_at-requires : goal.number_at-requires
number_at-requires c =
    subst (IsWithin (map length (rows_of c.args.parcels.now))) (sym c.address-at.ensures)
    (c.requires.lie (record { space = c.args.s; index = c.loop-index.index }) (omega (arith, c.space_size-size.ensures, ap (λ (layout : Hierarchy). size_at layout.spaces c.args.s) c.layout.ensures)))
