-- Slots that a seat holds and rows swap what lies in them, one after another.
use Rattle.std.proofs.Common.{add-one, drop_of_length-le, take_all, ◌≡◌, ℕ, zero, suc, ◌+◌, ◌<◌, ◌≤◌, List, [], ◌∷◌, ◌++◌, map, length, get_or, take, drop, append_assoc, refl, sym, ap, ◌∙◌, subst, arith}
use mathlib.Core.List.{append-nil, map-append}
use Rattle.std.proofs.Math.Seq.{drop-cons}
use Rattle.std.proofs.lemmas.List.{take_more}
use Rattle.atomic_table.specs.Table.{Me, rest as rest_of, turned}
use Rattle.waff_model.specs.Layout.{Space}
use Rattle.waff_cells.specs.Meaning.{Cells}
use Rattle.waff_board.specs.Hands.{rows_at}
use Rattle.waff_board.specs.Plays.{Parcels}
use Rattle.waff_board.specs.declared.view.View.{View}

-- after k slots: those to come, and behind them those that are done with. The rows have what lay in these, and these
-- have what lay in the rows
pub record IsSwapping {S : Type 0} (items : S → List ℕ) (v : View) (owners : List ℕ) (values rows : List (List ℕ)) (k : ℕ) (me : Me S View)
    (moved : List (List ℕ)) : Type 0 where
  pub coming : List (ℕ × S)
  pub gone : List (ℕ × S)
  pub is : me ≡ (v, coming ++ gone)
  pub to_come : map (λ slot. slot.0) coming ≡ drop k owners
  pub over : map (λ slot. slot.0) gone ≡ take k owners
  pub whole : moved ++ map (λ slot. items slot.1) coming ≡ values
  pub filled : map (λ slot. items slot.1) gone ≡ take k rows

pub drop_next : (xs : List ℕ) (k : ℕ) → k < length xs → drop k xs ≡ get_or xs k 0 ∷ drop (k + 1) xs
drop_next xs k within = rw (add-one, drop-cons xs k 0) refl

-- the first of the slots to come is that of the next owner
record Next {S : Type 0} (coming : List (ℕ × S)) (a : ℕ) (later : List ℕ) : Type 0 where
  pub value : S
  pub after : List (ℕ × S)
  pub is : coming ≡ (a, value) ∷ after
  pub names : map (λ slot. slot.0) after ≡ later

next : {S : Type 0} (coming : List (ℕ × S)) (a : ℕ) (later : List ℕ) → map (λ slot. slot.0) coming ≡ a ∷ later → Next coming a later
next [] a later names = absurd (cc)
next (slot ∷ coming) a later names =
    let name : slot.0 ≡ a = cc in
    record { value = slot.1; after = coming; is = ap (λ b. (b, slot.1) ∷ coming) name; names = (cc) }

module _ {S : Type 0} (items : S → List ℕ) (v : View) (owners : List ℕ) (values rows : List (List ℕ)) (k : ℕ) (me : Me S View)
    (moved : List (List ℕ)) (within : k < length owners) (h : IsSwapping items v owners values rows k me moved) where
  of_next : Next h.coming (get_or owners k 0) (drop (k + 1) owners)
  of_next = next h.coming (get_or owners k 0) (drop (k + 1) owners) (h.to_come ∙ drop_next owners k within)

  carried : me.1 ≡ (get_or owners k 0, of_next.value) ∷ (of_next.after ++ h.gone)
  carried = ap (λ (m : Me S View). m.1) h.is ∙ ap (λ (xs : List (ℕ × S)). xs ++ h.gone) of_next.is

  pub swaps_next : (y : S) × (me.1 ≡ (get_or owners k 0, y) ∷ rest_of me.1)
  swaps_next =
      (of_next.value, subst (λ (xs : List (ℕ × S)). xs ≡ (get_or owners k 0, of_next.value) ∷ rest_of xs) (sym carried) refl)

  -- the slot got what lay in the row, and went behind the others
  pub swapping_next : k < length rows → (x fresh : S) → items fresh ≡ get_or rows k [] → me.1 ≡ (get_or owners k 0, x) ∷ rest_of me.1
      → (after : Me S View) → after ≡ (me.0, turned ((get_or owners k 0, fresh) ∷ rest_of me.1))
      → IsSwapping items v owners values rows (k + 1) after (moved ++ items x ∷ [])
  swapping_next there x fresh value found after is =
      let a = get_or owners k 0 in
      let n = of_next in
      let slot : List (ℕ × S) = (a, fresh) ∷ [] in
      let f : ℕ × S → List ℕ = λ s. items s.1 in
      let first : (a, x) ∷ rest_of me.1 ≡ (a, n.value) ∷ (n.after ++ h.gone) = sym found ∙ carried in
      let pair : (a, x) ≡ (a, n.value) = cc in
      let same : x ≡ n.value = ap (λ (s : ℕ × S). s.1) pair in
      record {
        coming = n.after;
        gone = h.gone ++ slot;
        is = is ∙ ap (λ (u : View). (u, rest_of me.1 ++ slot)) (ap (λ (m : Me S View). m.0) h.is)
            ∙ ap (λ (xs : List (ℕ × S)). (v, rest_of xs ++ slot)) carried ∙ ap (λ (xs : List (ℕ × S)). (v, xs)) (append_assoc n.after h.gone slot);
        to_come = n.names;
        over = map-append (λ (s : ℕ × S). s.0) h.gone slot ∙ ap (λ names. names ++ a ∷ []) h.over ∙ sym (take_more owners k 0 within);
        whole = append_assoc moved (items x ∷ []) (map f n.after) ∙ ap (λ (y : S). moved ++ items y ∷ map f n.after) same
            ∙ sym (ap (λ (xs : List (ℕ × S)). moved ++ map f xs) n.is) ∙ h.whole;
        filled = map-append f h.gone slot ∙ ap (λ xs. xs ++ items fresh ∷ []) h.filled
            ∙ ap (λ row. take k rows ++ row ∷ []) value ∙ sym (take_more rows k [] there);
      }

-- before any swap
pub swapping_start : {S : Type 0} (items : S → List ℕ) (me : Me S View) (owners : List ℕ) (rows : List (List ℕ))
    → map (λ slot. slot.0) me.1 ≡ owners → IsSwapping items me.0 owners (map (λ slot. items slot.1) me.1) rows 0 me []
swapping_start items me owners rows names = record {
  coming = me.1;
  gone = [];
  is = ap (λ xs. (me.0, xs)) (sym (append-nil me.1));
  to_come = names;
  over = refl;
  whole = refl;
  filled = refl;
}

nothing_left : {S : Type 0} (coming : List (ℕ × S)) → map (λ slot. slot.0) coming ≡ [] → coming ≡ []
nothing_left [] names = refl
nothing_left (x ∷ coming) names = absurd (cc)

-- after the last one
module _ {S : Type 0} (items : S → List ℕ) (v : View) (owners : List ℕ) (values rows : List (List ℕ)) (k : ℕ) (me : Me S View)
    (left : List (List ℕ)) (past : length owners ≤ k) (h : IsSwapping items v owners values rows k me (rows_at left (take k owners))) where
  none : h.coming ≡ []
  none = nothing_left h.coming (h.to_come ∙ drop_of_length-le owners past)

  pub rows_swapped : rows_at left owners ≡ values
  rows_swapped =
      ap (λ names. rows_at left names) (sym (take_all k owners past)) ∙ sym (append-nil (rows_at left (take k owners)))
      ∙ sym (ap (λ (xs : List (ℕ × S)). rows_at left (take k owners) ++ map (λ slot. items slot.1) xs) none) ∙ h.whole

  pub slots_swapped : length rows ≤ k → map (λ slot. items slot.1) me.1 ≡ rows
  slots_swapped short =
      ap (λ (m : Me S View). map (λ slot. items slot.1) m.1) h.is
      ∙ ap (λ (xs : List (ℕ × S)). map (λ slot. items slot.1) (xs ++ h.gone)) none ∙ h.filled ∙ take_all k rows short

pub names_of : {S : Type 0} (items : S → List ℕ) (spaces : List Space) (cells : Cells) (owners : List ℕ) (held : List (ℕ × S))
    → Parcels items spaces cells owners held → map (λ slot. slot.0) held ≡ owners
names_of items spaces cells [] [] parcels = refl
names_of items spaces cells [] (slot ∷ held) parcels = absurd parcels
names_of items spaces cells (a ∷ owners) [] parcels = absurd parcels
names_of items spaces cells (a ∷ owners) (slot ∷ held) parcels =
    ap (λ b. b ∷ map (λ slot. slot.0) held) parcels.0.0 ∙ ap (λ names. a ∷ names) (names_of items spaces cells owners held parcels.1)

-- the numbers of what is read at a place
pub row_there : {S : Type 0} (items : S → List ℕ) (xs : List S) (k : ℕ) (x : S) → k < length xs → x ≡ get_or xs k x
    → items x ≡ get_or (map items xs) k []
row_there items [] k x within is = absurd (omega (arith, within))
row_there items (y ∷ ys) zero x within is = ap items is
row_there items (y ∷ ys) (suc k) x within is = row_there items ys k x (omega (arith, within)) is
