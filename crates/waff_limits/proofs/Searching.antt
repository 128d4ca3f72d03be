-- A cell looked for in a list that is in order.
use Rattle.std.proofs.Common.{◌≡◌, ℕ, ◌⊎◌, inl, inr, true, false, nat_lt, List, Result, Ok, Err, length, get_or, sym, ◌∙◌, ap, arith}
use Rattle.std.specs.List.{list_any}
use Rattle.std.specs.List.Sorted.{IsBinarySearchResult, IsSearchInRange, IsSortedBy}
use Rattle.std.specs.Ordering.{is_eq, is_lt}
use Rattle.std.specs.Prelude.{is_ok}
use Rattle.std.specs.declared.cmp.Ordering.TheVariants.{Equal, Greater, Less}
use Rattle.std.proofs.lemmas.Bool.{cases_Bool, ltb-false, ltb-true}
use Rattle.std.proofs.lemmas.List.Folds.{list_any_none}
use Rattle.std.proofs.lemmas.List.Sorted.{searchable_from_sorted}
use Rattle.std.proofs.lemmas.Map.Views.{list_any-from_Contains}
use Rattle.waff_model.specs.declared.cell.Cell.{Cell}
use Rattle.waff_assign.specs.Footprint.{cell_cmp}
use Rattle.waff_assign.proofs.CellOrder.{cell_cmp_total, cell_eq_equiv, cell_eq_same, cell_eq_ties}
use Rattle.waff_limits.specs.Data.{is_cell}
use Rattle.waff_limits.proofs.Cells.{is_turned}

tied : (y cell : Cell) → cell_cmp y cell ≡ Equal → is_cell y cell ≡ true
tied y cell equal = cell_eq_ties y cell ∙ ap is_eq equal

untied : (y cell : Cell) → (cell_cmp y cell ≡ Less) ⊎ (cell_cmp y cell ≡ Greater) → is_cell cell y ≡ false
untied y cell (inl less) = is_turned cell y ∙ cell_eq_ties y cell ∙ ap is_eq less
untied y cell (inr more) = is_turned cell y ∙ cell_eq_ties y cell ∙ ap is_eq more

pub found : (cells : List Cell) (cell : Cell) (r : Result ℕ ℕ) → IsBinarySearchResult (λ y. cell_cmp y cell) cells r → IsSearchInRange r (length cells)
    → IsSortedBy (λ a b. is_lt (cell_cmp a b)) cells → is_ok r ≡ list_any (is_cell cell) cells
found cells cell (Ok i) holds within sorted =
    let same : get_or cells i cell ≡ cell = cell_eq_same (get_or cells i cell) cell (tied (get_or cells i cell) cell (holds cell)) in
    sym (list_any-from_Contains cell_eq_equiv cell cells (i, within, same))
found cells cell (Err i) parts within sorted =
    let parted = parts (searchable_from_sorted cell_cmp_total (λ c. c) cells cell sorted) in
    sym (list_any_none (is_cell cell) cells (λ k d low. elim (cases_Bool (nat_lt k i)) [
      | inl held ↦ untied (get_or cells k d) cell (inl (parted.0 k d (omega arith) (ltb-true k i held)))
      | inr failed ↦ untied (get_or cells k d) cell (inr (parted.1 k d (ltb-false k i failed) low))
    ]))
