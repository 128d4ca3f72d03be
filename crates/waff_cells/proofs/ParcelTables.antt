-- The table of parcels: how it is filled, and what it says of a cell.
use Rattle.std.proofs.Common.{◌≡◌, ℕ, ◌+◌, ◌<◌, inl, inr, List, [], length, get_or, set, Vec, Global, ap, sym, subst, ◌∙◌, arith, length-set, zero-add}
use Rattle.std.proofs.lemmas.Bool.{cases_eq}
use Rattle.std.proofs.lemmas.List.{get_or-set_same, get_or-set_other, get_or_read}
use Rattle.std.proofs.lemmas.List.FromFn.{length-map-range_with_len, get_or-map-range_with_len}
use Rattle.waff_model.specs.declared.cell.Cell.{Cell}
use Rattle.waff_model.specs.Layout.{Space, IsCell, size_at, owner_of}
use Rattle.waff_model.specs.Parcel.{cells_ahead, cells_before, owned_among}
use Rattle.waff_model.proofs.ParcelLemmas.{owned_more, owned_same}
use Rattle.waff_model.proofs.OwnerLemmas.{space_below}
use Rattle.waff_cells.specs.Held.{rows_of}
use Rattle.waff_cells.specs.ParcelTable.{AreCounted, AreOfCells, across}
use Rattle.waff_cells.proofs.Writes.{row_of, count_of}

-- the owner of one cell more is counted
pub counted_more : (spaces : List Space) (cell : Cell) → IsCell spaces cell → (counts : List ℕ) (owner : ℕ) → owner ≡ owner_of spaces cell → owner < length counts
    → AreCounted spaces (cells_before spaces cell) counts → AreCounted spaces (cells_ahead spaces cell.space + (cell.index + 1)) (set counts owner (get_or counts owner 0 + 1))
counted_more spaces cell is_cell counts owner is inside counted b below =
    elim (cases_eq b owner) [
      | inl same ↦
          subst (λ b. get_or (set counts owner (get_or counts owner 0 + 1)) b 0 ≡ owned_among spaces (cells_ahead spaces cell.space + (cell.index + 1)) b) (sym same)
          (get_or-set_same counts owner (get_or counts owner 0 + 1) 0 inside ∙ ap (λ n. n + 1) (counted owner inside)
          ∙ sym (owned_more spaces cell is_cell owner (sym is)))
      | inr other ↦
          get_or-set_other counts owner b (get_or counts owner 0 + 1) 0 other
          ∙ counted b (omega (arith, length-set counts owner (get_or counts owner 0 + 1)))
          ∙ sym (owned_same spaces cell is_cell b (λ same. other (sym same ∙ sym is)))
    ]

module _ (spaces : List Space) (number : Cell → ℕ) (vecs : List (Vec ℕ Global)) (rows : AreOfCells spaces number (rows_of vecs)) (cell : Cell) (is_cell : IsCell spaces cell) where
  space_within : cell.space < length spaces
  space_within = space_below spaces cell.space cell.index is_cell

  -- there is a row for the cell's space
  pub row_there : cell.space < length vecs
  row_there =
      let within = space_within in
      omega (arith, within, count_of vecs, ap length rows, length-map-range_with_len (across spaces number) 0 (length spaces))

  module _ (row : Vec ℕ Global) (read : row ≡ get_or vecs cell.space row) where
    row_is : row.items ≡ across spaces number cell.space
    row_is =
        ap (λ (v : Vec ℕ Global). v.items) read ∙ row_of vecs cell.space row row_there ∙ ap (λ xs. get_or xs cell.space []) rows
        ∙ get_or-map-range_with_len (across spaces number) 0 (length spaces) cell.space cell.space [] space_within (zero-add cell.space)

    abbrev at : ℕ → ℕ
    at i = number (record { space = cell.space; index = i })

    -- and the cell's number in it
    pub number_there : cell.index < length row.items
    number_there = let is = row_is in omega (arith, is_cell, ap length is, length-map-range_with_len at 0 (size_at spaces cell.space))

    pub number_is : (found : ℕ) → found ≡ get_or row.items cell.index found → found ≡ number cell
    number_is found is =
        get_or_read row.items cell.index found number_there is 0 ∙ ap (λ xs. get_or xs cell.index 0) row_is
        ∙ get_or-map-range_with_len at 0 (size_at spaces cell.space) cell.index cell.index 0 is_cell (zero-add cell.index)
