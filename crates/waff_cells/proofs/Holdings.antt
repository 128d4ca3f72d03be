-- Parcels as rows that hold cells, each in the row of its owner, at its offset.
use Rattle.std.proofs.Common.{◌≡◌, ℕ, ◌<◌, ◌≤◌, List, [], length, map, get_or, Contains, Some, refl, sym, ◌∙◌, ap, subst, arith, ⊎_elim}
use Rattle.std.proofs.lemmas.Bool.{cases_lt}
use Rattle.std.proofs.lemmas.List.{ext_get_or, get_or-map, get_or_past}
use Rattle.std.proofs.lemmas.Option.{slice_get-get_or, get_or_from_slice_get}
use Rattle.waff_model.specs.declared.cell.Cell.{Cell}
use Rattle.waff_model.specs.Layout.{Space, owner_of}
use Rattle.waff_model.specs.Parcel.{parcel_size, offset_of}
use Rattle.waff_model.proofs.ParcelLemmas.{offset_within, offset_filled, same_offset}
use Rattle.waff_cells.specs.Meaning.{Cells}
use Rattle.waff_cells.specs.Held.{IsWithin}
use Rattle.waff_cells.proofs.HeldCells.{AreApart, Hold}
use Rattle.waff_cells.specs.Laws.{ParcelIsOne}
use Rattle.waff_cells.specs.Parcel.{AreParcels, HaveParcelSizes, IsOwned, lies_at}

-- a column of a row is one of the sizes of rows
in_row : (rows : List (List ℕ)) (a offset : ℕ) → offset < length (get_or rows a []) → IsWithin (map length rows) (a, offset)
in_row rows a offset inside =
    ⊎_elim {C = IsWithin (map length rows) (a, offset)}
    (λ (short : a < length rows). subst (λ n. offset < n) (sym (get_or-map length rows a [] 0 short)) inside)
    (λ (past : length rows ≤ a). absurd (omega (arith, inside, ap length (get_or_past rows a [] past))))
    (cases_lt a (length rows))

module _ (spaces : List Space) (owners : List ℕ) where
  -- no two cells share an address
  pub parcels_apart : AreApart (IsOwned spaces owners) (lies_at spaces)
  parcels_apart one other has_one has_other same =
      same_offset spaces one other has_one.there has_other.there (ap (λ at. at.0) same) (ap (λ at. at.1) same)

  -- the address of a cell lies in rows of the parcels' sizes
  pub parcel_address : (rows : List (List ℕ)) → HaveParcelSizes spaces owners rows → (cell : Cell) → IsOwned spaces owners cell
      → IsWithin (map length rows) (lies_at spaces cell)
  parcel_address rows sized cell has =
      in_row rows (owner_of spaces cell) (offset_of spaces cell)
      (omega (arith, offset_within spaces cell has.there, sized (owner_of spaces cell) has.owned))

  -- parcels have their sizes
  pub parcel_sizes : (cells : Cells) (rows : List (List ℕ)) → AreParcels spaces owners cells rows → HaveParcelSizes spaces owners rows
  parcel_sizes cells rows parcels a owned = (parcels a owned).count

  -- parcels hold their cells
  pub hold_parcels : (cells : Cells) (rows : List (List ℕ)) → AreParcels spaces owners cells rows
      → Hold (IsOwned spaces owners) (lies_at spaces) rows cells
  hold_parcels cells rows parcels cell has =
      let a = owner_of spaces cell in
      get_or_from_slice_get (get_or rows a []) (offset_of spaces cell) (cells cell) 0
      ((parcels a has.owned).each cell has.there refl)

  -- rows of the parcels' sizes that hold the cells are the parcels
  pub part_parcels : (cells : Cells) (rows : List (List ℕ)) → HaveParcelSizes spaces owners rows
      → Hold (IsOwned spaces owners) (lies_at spaces) rows cells → AreParcels spaces owners cells rows
  part_parcels cells rows sized hold a owned = record {
    count = sized a owned;
    each = λ cell is_cell is_owner.
        let has : Contains owners (owner_of spaces cell) = subst (Contains owners) (sym is_owner) owned in
        let row : get_or rows (owner_of spaces cell) [] ≡ get_or rows a [] = ap (λ i. get_or rows i []) is_owner in
        let inside : offset_of spaces cell < length (get_or rows a [])
        = omega (arith, offset_within spaces cell is_cell, sized a owned, ap (parcel_size spaces) is_owner) in
        slice_get-get_or (get_or rows a []) (offset_of spaces cell) 0 inside
        ∙ ap (λ xs. Some (get_or xs (offset_of spaces cell) 0)) (sym row)
        ∙ ap Some (hold cell (record { there = is_cell; owned = has }));
  }

-- numbers that are the parcel of one map of cells are the same
pub parcels_are_one : (spaces : List Space) (a : ℕ) (cells : Cells) → ParcelIsOne spaces a cells
parcels_are_one spaces a cells one other is_one is_other =
    ext_get_or 0 one other (is_one.count ∙ sym is_other.count) (λ i within.
    let filled = offset_filled spaces a i (omega (arith, is_one.count, within)) in
    let cell = filled.0 in
    let at_one : get_or one (offset_of spaces cell) 0 ≡ cells cell
    = get_or_from_slice_get one (offset_of spaces cell) (cells cell) 0 (is_one.each cell filled.1 filled.2) in
    let at_other : get_or other (offset_of spaces cell) 0 ≡ cells cell
    = get_or_from_slice_get other (offset_of spaces cell) (cells cell) 0 (is_other.each cell filled.1 filled.2) in
    ap (λ k. get_or one k 0) (sym filled.3) ∙ at_one ∙ sym at_other ∙ ap (λ k. get_or other k 0) filled.3)
