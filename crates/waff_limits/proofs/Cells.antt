-- Cells that are the same or not, and the ticks that are noted at them.
use Rattle.std.proofs.Common.{◌≡◌, ◌⊎◌, inl, inr, ℕ, ◌+◌, ◌<◌, Bool, true, false, cond, ◌||◌, nat_eq, List, [], ◌∷◌, ◌++◌, length, take, get_or, refl, sym, ◌∙◌, ap, ap₂, arith}
use Rattle.std.specs.List.{list_any}
use Rattle.std.specs.Ordering.{eq_by_cmp}
use Rattle.std.specs.List.Sorted.{IsStrictlySortedBy}
use Rattle.std.proofs.lemmas.Bool.{cases_Bool, and_parts, cond-false, cond-true, eqb-true}
use Rattle.std.proofs.lemmas.List.{get_or_default, get_or-take, length-take, take_more}
use Rattle.std.proofs.lemmas.List.Folds.{list_any-append, list_any_none}
use Rattle.std.proofs.lemmas.Map.Keys.{IsDistinct-from_sorted, apart_from_distinct}
use Rattle.waff_model.specs.declared.cell.Cell.{Cell}
use Rattle.waff_assign.specs.Footprint.{cell_cmp}
use Rattle.waff_assign.proofs.CellOrder.{cell_eq_ties}
use Rattle.waff_limits.specs.Data.{IsMore, is_cell, used_among}

pub is_itself : (cell : Cell) → is_cell cell cell ≡ true
is_itself cell = grind arith

-- two cells are the same or not
pub cases_cell : (cell other : Cell) → (other ≡ cell) ⊎ (is_cell cell other ≡ false)
cases_cell cell other = elim (cases_Bool (is_cell cell other)) [
  | inl same ↦
      let parts = and_parts (nat_eq cell.space other.space) (nat_eq cell.index other.index) same in
      inl (both (eqb-true _ _ parts.0) (eqb-true _ _ parts.1))
  | inr not ↦ inr not
]
  where
    both : cell.space ≡ other.space → cell.index ≡ other.index → other ≡ cell
    both space index = ap (λ s. record { space = s; index = other.index }) (sym space) ∙ ap (λ i. record { space = cell.space; index = i }) (sym index)

or_false : (b : Bool) → (b || false) ≡ b
or_false true = refl
or_false false = refl

or_true : (b : Bool) → (b || true) ≡ true
or_true true = refl
or_true false = refl

pub is_turned : (cell other : Cell) → is_cell cell other ≡ is_cell other cell
is_turned cell other = grind arith

module _ (cells : List Cell) (at : ℕ) (cell : Cell) (within : at < length cells) (is : get_or cells at cell ≡ cell) where
  -- a cell of a list in order is none of those before it
  pub is_new : IsStrictlySortedBy cell_cmp cells → list_any (is_cell cell) (take at cells) ≡ false
  is_new rising =
      list_any_none (is_cell cell) (take at cells) (λ i d lt.
      let short : i < at = omega (arith, lt, length-take at cells) in
      let apart = apart_from_distinct (eq_by_cmp cell_cmp) cells i at d (IsDistinct-from_sorted cell_cmp cells rising) short within in
      let one : get_or (take at cells) i d ≡ get_or cells i d = get_or-take at cells i d short in
      let here : cell ≡ get_or cells at d = sym is ∙ get_or_default cells at cell d within in
      ap₂ is_cell here one ∙ is_turned (get_or cells at d) (get_or cells i d) ∙ cell_eq_ties (get_or cells i d) (get_or cells at d) ∙ apart)

  -- one cell more
  pub one_more : (other : Cell) → list_any (is_cell other) (take (at + 1) cells) ≡ (list_any (is_cell other) (take at cells) || is_cell other cell)
  one_more other =
      ap (list_any (is_cell other)) (take_more cells at cell within ∙ ap (λ x. take at cells ++ x ∷ []) is) ∙ list_any-append (is_cell other) (take at cells) (cell ∷ [])
      ∙ ap (λ b. list_any (is_cell other) (take at cells) || b) (or_false (is_cell other cell))

  -- so it counts where it had not, and nothing else changes
  pub used_more : (used : Cell → ℕ) (ticks : ℕ) → IsStrictlySortedBy cell_cmp cells
      → IsMore (used_among (take at cells) used ticks) cell ticks (used_among (take (at + 1) cells) used ticks)
  used_more used ticks rising = record {
    here =
        let is_in : list_any (is_cell cell) (take (at + 1) cells) ≡ true = one_more cell ∙ ap (λ b. list_any (is_cell cell) (take at cells) || b) (is_itself cell) ∙ or_true (list_any (is_cell cell) (take at cells)) in
        let now = cond-true (list_any (is_cell cell) (take (at + 1) cells)) ticks 0 is_in in
        let then = cond-false (list_any (is_cell cell) (take at cells)) ticks 0 (is_new rising) in
        omega (arith, now, then);
    others = λ other not.
        ap (λ b. used other + cond b ticks 0) (one_more other ∙ ap (λ b. list_any (is_cell other) (take at cells) || b) (is_turned other cell ∙ not) ∙ or_false (list_any (is_cell other) (take at cells)));
  }
