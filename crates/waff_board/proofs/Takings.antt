-- What is taken from a board that is closed.
use Rattle.std.proofs.Common.{◌≡◌, ◌≢◌, ⊎_elim, ℕ, zero, suc, ◌+◌, ◌<◌, ◌≤◌, true, false, List, [], ◌∷◌, ◌++◌, length, map, get_or, take, slice_index, Vec, Global, refl, sym, ap, ◌∙◌, subst, arith}
use Rattle.std.proofs.lemmas.Bool.{cases_Bool}
use Rattle.std.proofs.lemmas.Option.{get_or_from_slice_get}
use mathlib.Core.Option.{some, some-injective, some-ne-none}
use lib.ListN.{get_elem?}
use Rattle.atomic_table.specs.Table.{Final, Seen}
use Rattle.waff_model.specs.Layout.{IsCell, IsLayout, owner_of}
use Rattle.waff_model.specs.Parcel.{offset_of, parcel_size}
use Rattle.waff_model.specs.declared.cell.Cell.{Cell}
use Rattle.waff_model.proofs.ParcelLemmas.{offset_within}
use Rattle.waff_model.proofs.OwnerLemmas.{owner_is_affinity}
use Rattle.waff_cells.specs.Gathered.{LieIn, cells_of_parcels}
use Rattle.waff_cells.specs.Held.{rows_of}
use Rattle.waff_cells.specs.Meaning.{Cells}
use Rattle.waff_core.specs.Job.{JobValue, IsIn}
use Rattle.waff_board.specs.Endings.{IsUnseen}
use Rattle.waff_board.specs.Rule.{Holds}
use Rattle.waff_board.specs.Seats.{has_seen}
use Rattle.waff_board.specs.declared.view.Setup.{Setup}
use Rattle.waff_board.specs.declared.view.View.{View}
use Rattle.waff_cells.specs.Serial.{serial}
use Rattle.waff_board.proofs.Closes.{HaveParcels, seen_is_done, all_done_is_serial}

-- what is found at a place is read there
pub index_there : (words : List ℕ) (i word : ℕ) → get_elem? words i ≡ some word → slice_index words i ≡ word
index_there [] i word at = absurd (some-ne-none word (sym at))
index_there (first ∷ words) zero word at = some-injective first word at
index_there (first ∷ words) (suc i) word at = index_there words i word at

-- one more, which is found at the next place
pub take_there : {A : Type 0} (xs : List A) (i : ℕ) (x : A) → get_elem? xs i ≡ some x → take i xs ++ x ∷ [] ≡ take (i + 1) xs
take_there [] i x at = absurd (some-ne-none x (sym at))
take_there (first ∷ xs) zero x at = ap (λ y. y ∷ []) (sym (some-injective first x at))
take_there (first ∷ xs) (suc i) x at =
    let next : suc i + 1 ≡ suc (i + 1) = omega arith in
    ap (λ rest. first ∷ rest) (take_there xs i x at) ∙ ap (λ n. take n (first ∷ xs)) (sym next)

row_there : (vecs : List (Vec ℕ Global)) (i : ℕ) (vec : Vec ℕ Global) → get_elem? vecs i ≡ some vec → get_or (rows_of vecs) i [] ≡ vec.items
row_there [] i vec at = absurd (some-ne-none vec (sym at))
row_there (first ∷ vecs) zero vec at = ap (λ (v : Vec ℕ Global). v.items) (some-injective first vec at)
row_there (first ∷ vecs) (suc i) vec at = row_there vecs i vec at

size_there : (vecs : List (Vec ℕ Global)) (i : ℕ) (vec : Vec ℕ Global) → get_elem? vecs i ≡ some vec
    → slice_index (map length (rows_of vecs)) i ≡ length vec.items
size_there [] i vec at = absurd (some-ne-none vec (sym at))
size_there (first ∷ vecs) zero vec at = ap (λ (v : Vec ℕ Global). length v.items) (some-injective first vec at)
size_there (first ∷ vecs) (suc i) vec at = size_there vecs i vec at

module _ (job : JobValue) (is : IsLayout job.layout) (cells : Cells) (vecs : List (Vec ℕ Global))
    (are : HaveParcels (λ (v : Vec ℕ Global). v.items) job cells vecs) where
  owned : (cell : Cell) → IsCell job.layout.spaces cell → owner_of job.layout.spaces cell < length job.layout.tree
  owned cell is_cell = owner_is_affinity job.layout.tree job.layout.spaces is.each cell is_cell

  pub parcels_lie : LieIn job.layout.spaces (rows_of vecs)
  parcels_lie cell is_cell =
      let a = owner_of job.layout.spaces cell in
      let slot = are.each a (owned cell is_cell) in
      let offset = offset_within job.layout.spaces cell is_cell in
      let size : slice_index (map length (rows_of vecs)) a ≡ parcel_size job.layout.spaces a
      = size_there vecs a slot.0 slot.1 ∙ slot.2.count in
      omega (arith, offset, size)

  pub parcels_tell : (cell : Cell) → IsCell job.layout.spaces cell → cells_of_parcels job.layout.spaces (rows_of vecs) cell ≡ cells cell
  parcels_tell cell is_cell =
      let a = owner_of job.layout.spaces cell in
      let offset = offset_of job.layout.spaces cell in
      let slot = are.each a (owned cell is_cell) in
      ap (λ xs. get_or xs offset 0) (row_there vecs a slot.0 slot.1)
      ∙ get_or_from_slice_get slot.0.items offset (cells cell) 0 (slot.2.each cell is_cell refl)

-- what is seen done has a status word that says so
pub seen_done : {S : Type 0} (items : S → List ℕ) (key : Setup) (job : JobValue) (id : ℕ) (v : View) (words : List ℕ) (xs : List S)
    → Final (Seen (Holds items key) id v) words xs → key.job ≡ job
    → (n : ℕ) → IsIn job n → has_seen v n ≡ true → slice_index words n ≡ 2
seen_done items key job id v words xs final told n is_in seen =
    seen_is_done items key id v words xs final n (subst (λ (j : JobValue). IsIn j n) (sym told) is_in) seen

-- a message whose status word says that it is not done is not seen done
pub undone_unseen : {S : Type 0} (items : S → List ℕ) (key : Setup) (job : JobValue) (id : ℕ) (v : View) (words : List ℕ) (xs : List S)
    → Final (Seen (Holds items key) id v) words xs → key.job ≡ job → v.job ≡ job
    → (m : ℕ) → 1 ≤ m → m ≤ length job.ops → slice_index words m ≢ 2 → IsUnseen v m
undone_unseen items key job id v words xs final told of m from to undone = record {
  is_in = subst (λ (j : JobValue). IsIn j m) (sym of) is_in;
  unseen = ⊎_elim {C = has_seen v m ≡ false}
      (λ (seen : has_seen v m ≡ true).
      absurd (undone (seen_done items key job id v words xs final told m is_in seen)))
      (λ (unseen : has_seen v m ≡ false). unseen)
      (cases_Bool (has_seen v m));
}
  where
    is_in : IsIn job m
    is_in = record { from = from; to = to }

-- where all status words say so, the slots have the parcels of the state after all messages
pub closed_serial : {S : Type 0} (items : S → List ℕ) (key : Setup) (job : JobValue) (id : ℕ) (v : View) (words : List ℕ) (xs : List S)
    → Final (Seen (Holds items key) id v) words xs → key.job ≡ job
    → ((n : ℕ) → 1 ≤ n → n ≤ length job.ops → slice_index words n ≡ 2)
    → HaveParcels items job (serial job.ops (length job.ops)) xs
closed_serial items key job id v words xs final told over =
    subst (λ (j : JobValue). HaveParcels items j (serial j.ops (length j.ops)) xs) told
    (all_done_is_serial items key id v words xs final
    (λ n is. let there : IsIn job n = subst (λ (j : JobValue). IsIn j n) told is in over n there.from there.to))
