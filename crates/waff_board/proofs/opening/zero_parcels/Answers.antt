use Rattle.std.proofs.Common.{◌≡◌, ℕ, [], ◌∷◌, ◌++◌, map, replicate, Vec, Global, arith, rules, sym, ap, ◌∙◌}
use Rattle.std.proofs.lemmas.List.{map_push}
use Rattle.std.proofs.lemmas.List.FromFn.{map-range_with_len_more}
use Rattle.waff_model.specs.Parcel.{parcel_size}
use Rattle.waff_board.specs.Openings.{zero_parcels_of}
use Rattle.waff_board.proofs.opening.zero_parcels.Goals as goal

pub loop-a-preserved : goal.loop-a-preserved
loop-a-preserved c =
    let spaces = c.args.table.now.spaces in
    let a = c.loop-a.a in
    let zeros : c.in_ok-vec.field-0.items ≡ replicate (parcel_size spaces a) 0 = search rules in
    ap (map (λ (v : Vec ℕ Global). v.items)) c.in_ok-push.ensures.items
    ∙ map_push (λ (v : Vec ℕ Global). v.items) c.loop-a.parcels.items c.in_ok-vec.field-0
    ∙ ap (λ rows. rows ++ c.in_ok-vec.field-0.items ∷ []) c.loop-a.invariant
    ∙ ap (λ xs. zero_parcels_of spaces a ++ xs ∷ []) zeros
    ∙ sym (map-range_with_len_more (λ n. replicate (parcel_size spaces n) 0) 0 a a (omega arith))
