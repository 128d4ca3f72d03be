-- Rows of a state, gathered from parcels.
use Rattle.std.proofs.Common.{◌≡◌, ℕ, ◌+◌, ◌<◌, ◌≤◌, List, [], ◌∷◌, ◌++◌, length, map, take, get_or, sym, ◌∙◌, ap, ap₂, arith, ⊎_elim}
use Rattle.std.specs.List.{range_with_len}
use Rattle.std.proofs.lemmas.Bool.{cases_lt}
use Rattle.std.proofs.lemmas.List.{length-map, length-take-le, map_push, take_more, get_or_push, get_or_append_left, get_or_past}
use Rattle.std.proofs.lemmas.List.FromFn.{length-map-range_with_len, get_or-map-range_with_len}
use Rattle.waff_model.specs.Layout.{Space, IsCell, size_at}
use Rattle.waff_model.specs.Messages.{sizes_of}
use Rattle.waff_model.specs.declared.cell.Cell.{Cell}
use Rattle.waff_cells.specs.Grid.{cells_in}
use Rattle.waff_cells.specs.Gathered.{cells_of_parcels}
use Rattle.waff_cells.proofs.Zeros.{size_is}

-- the row of space s
abbrev pub row_at : List Space → List (List ℕ) → ℕ → List ℕ
row_at spaces parcels s =
    map (λ i. cells_of_parcels spaces parcels (record { space = s; index = i })) (range_with_len 0 (size_at spaces s))

-- the rows of the first n spaces
abbrev pub AreRows : List Space → List (List ℕ) → ℕ → List (List ℕ) → Type 0
AreRows spaces parcels n rows =
    (map length rows ≡ take n (sizes_of spaces))
    × ((cell : Cell) → cell.space < n → IsCell spaces cell → cells_in rows cell ≡ cells_of_parcels spaces parcels cell)

-- one more row
module _ (spaces : List Space) (parcels rows more : List (List ℕ)) (row : List ℕ) (s : ℕ) (short : s < length spaces)
    (pushed : more ≡ rows ++ row ∷ []) (is : row ≡ row_at spaces parcels s) (before : AreRows spaces parcels s rows) where
  within_sizes : s < length (sizes_of spaces)
  within_sizes = omega (arith, short, length-map spaces (λ (space : Space). space.size))

  count : length rows ≡ s
  count = sym (length-map rows length) ∙ ap length before.0 ∙ length-take-le s (sizes_of spaces) (let within = within_sizes in omega (arith, within))

  size_same : length row ≡ get_or (sizes_of spaces) s 0
  size_same =
      ap length is ∙ length-map-range_with_len (λ i. cells_of_parcels spaces parcels (record { space = s; index = i })) 0 (size_at spaces s)
      ∙ sym (size_is spaces s)

  sizes_more : map length more ≡ take (s + 1) (sizes_of spaces)
  sizes_more =
      ap (map length) pushed ∙ map_push length rows row
      ∙ ap₂ (λ (xs : List ℕ) (n : ℕ). xs ++ n ∷ []) before.0 size_same
      ∙ sym (take_more (sizes_of spaces) s 0 within_sizes)

  cells_more : (cell : Cell) → cell.space < s + 1 → IsCell spaces cell → cells_in more cell ≡ cells_of_parcels spaces parcels cell
  cells_more cell upto is_cell = ⊎_elim {C = cells_in more cell ≡ cells_of_parcels spaces parcels cell}
      (λ (old : cell.space < s).
      ap (λ xs. get_or (get_or xs cell.space []) cell.index 0) pushed
      ∙ ap (λ xs. get_or xs cell.index 0) (get_or_append_left rows (row ∷ []) [] cell.space (let long = count in omega (arith, old, long)))
      ∙ before.1 cell old is_cell)
      (λ (past : s ≤ cell.space).
      let here : s ≡ cell.space = omega (arith, upto, past) in
      let long = count in
      ap (λ xs. get_or (get_or xs cell.space []) cell.index 0) pushed
      ∙ ap (λ xs. get_or xs cell.index 0) (get_or_push rows row [] cell.space (long ∙ here))
      ∙ ap (λ xs. get_or xs cell.index 0) (is ∙ ap (row_at spaces parcels) here)
      ∙ get_or-map-range_with_len (λ i. cells_of_parcels spaces parcels (record { space = cell.space; index = i })) 0 (size_at spaces cell.space)
      cell.index cell.index 0 is_cell (omega arith))
      (cases_lt cell.space s)

  pub rows_more : AreRows spaces parcels (s + 1) more
  rows_more = (sizes_more, cells_more)

-- all rows
pub all_rows : (spaces : List Space) (parcels rows : List (List ℕ)) (n : ℕ) → length spaces ≤ n → AreRows spaces parcels n rows
    → (cell : Cell) → IsCell spaces cell → cells_in rows cell ≡ cells_of_parcels spaces parcels cell
all_rows spaces parcels rows n all are cell is_cell = are.1 cell (there spaces cell.space is_cell all) is_cell
  where
    there : (spaces : List Space) (s : ℕ) → cell.index < size_at spaces s → length spaces ≤ n → s < n
    there spaces s is_cell all = ⊎_elim {C = s < n}
        (λ (within : s < length spaces). omega (arith, within, all))
        (λ (past : length spaces ≤ s).
        let none : get_or (sizes_of spaces) s 0 ≡ 0
        = get_or_past (sizes_of spaces) s 0 (omega (arith, past, length-map spaces (λ (space : Space). space.size))) in
        let size : size_at spaces s ≡ 0 = sym (size_is spaces s) ∙ none in
        absurd (omega (arith, is_cell, size)))
        (cases_lt s (length spaces))
