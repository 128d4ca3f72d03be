use Rattle.std.proofs.Common.{◌≡◌, ℕ, ◌+◌, List, ◌++◌, ◌∷◌, [], length, map, Vec, Global, ap, ap₂, sym, subst, ◌∙◌, arith, zero-add}
use Rattle.std.specs.List.{range_with_len}
use Rattle.std.proofs.lemmas.List.{map_push, with_items_is}
use Rattle.std.proofs.lemmas.List.FromFn.{map-range_with_len_more}
use Rattle.waff_model.specs.Layout.{owner_of}
use Rattle.waff_model.specs.Parcel.{cells_ahead, offset_of}
use Rattle.waff_model.proofs.ParcelLemmas.{owned_all}
use Rattle.waff_cells.specs.Held.{rows_of}
use Rattle.waff_cells.specs.ParcelTable.{AreCounted, across}
use Rattle.waff_cells.proofs.parcel_table.ParcelTable.new.Goals as goal

-- one row more
rows_more : (row_at : ℕ → List ℕ) (s : ℕ) (before after : List (Vec ℕ Global)) (row : Vec ℕ Global)
    → after ≡ before ++ row ∷ [] → rows_of before ≡ map row_at (range_with_len 0 s) → row.items ≡ row_at s
    → rows_of after ≡ map row_at (range_with_len 0 (s + 1))
rows_more row_at s before after row pushed are is =
    ap rows_of pushed ∙ map_push (λ (v : Vec ℕ Global). v.items) before row
    ∙ ap₂ (λ (xs : List (List ℕ)) (x : List ℕ). xs ++ x ∷ []) are is
    ∙ sym (map-range_with_len_more row_at 0 s s (zero-add s))

pub loop-s-preserved : goal.loop-s-preserved
loop-s-preserved c =
    let spaces = c.args.layout.spaces in
    let s = c.loop-s.s in
    let rows = c.in_ok-owner_row in
    let long = c.rows_across.ensures.count ∙ sym c.loop-s.invariant.count ∙ sym (ap length c.deref_mut.ensures.value) ∙ c.deref_mut.ensures.len in
    let written = with_items_is c.loop-s.sizes c.rows_across.new.counts long in
    record {
      owners = rows_more (across spaces (owner_of spaces)) s c.loop-s.owners.items c.push.new.self.items rows.owner_row
          c.in_ok-push.ensures.items c.loop-s.invariant.owners rows.ensures.owners;
      offsets = rows_more (across spaces (offset_of spaces)) s c.loop-s.offsets.items c.push-in-loop-s.new.self.items rows.offset_row
          c.in_ok-push-2.ensures.items c.loop-s.invariant.offsets rows.ensures.offsets;
      count = ap length written ∙ c.rows_across.ensures.count;
      counted = subst (AreCounted spaces (cells_ahead spaces (s + 1))) (sym written) rows.ensures.counted;
    }

pub invariant_of-result : goal.invariant_of-result
invariant_of-result c =
    let spaces = c.args.layout.spaces in
    let all : c.loop-s.s ≡ length spaces = omega (arith, c.loop-s-test.false, c.space_count-s-end.ensures.count) in
    record {
      owned = c.loop-s.invariant.owners ∙ ap (λ n. map (across spaces (owner_of spaces)) (range_with_len 0 n)) all;
      placed = c.loop-s.invariant.offsets ∙ ap (λ n. map (across spaces (offset_of spaces)) (range_with_len 0 n)) all;
      count = c.loop-s.invariant.count;
      each = λ a below. c.loop-s.invariant.counted a below ∙ owned_all spaces c.loop-s.s a (omega (arith, all));
    }
