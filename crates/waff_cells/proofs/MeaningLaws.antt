-- The laws of the meaning of messages.
use Rattle.std.proofs.Common.{◌≡◌, ℕ, ◌+◌, ◌%◌, ◌^◌, ◌<◌, cond, List, [], ◌∷◌, length, get_or, Contains, refl, sym, ◌∙◌, ap, ap₂, subst, arith}
use Rattle.std.proofs.lemmas.Bool.{cond-false, false_from_ne_true}
use Rattle.std.proofs.lemmas.List.{ext_get_or, length-map, get_or-map}
use Rattle.std.proofs.lemmas.List.Elements.{Contains-append_left, Contains-append_right}
use Rattle.waff_model.specs.Cells.{cells_of_op, cells_of}
use Rattle.waff_model.specs.Tree.{Node, AtOrAbove}
use Rattle.waff_model.specs.Layout.{Hierarchy}
use Rattle.waff_model.specs.declared.cell.Cell.{Cell}
use Rattle.waff_model.specs.declared.op.Op.{Op}
use Rattle.waff_model.specs.declared.op.Op.TheVariants.{Set, Add, Copy, Swap, Read}
use Rattle.waff_model.proofs.TreeLemmas.{comparable}
use Rattle.waff_assign.proofs.CellOrder.{cell_eq_same}
use Rattle.waff_cells.specs.Meaning.{Cells, is_same, with_number, effect}
use Rattle.waff_cells.specs.Grid.{HasSizes}
use Rattle.waff_cells.specs.Laws.{OtherCellsStay, NamedCellsDecide, ThoseAboveExclude, OthersLeaveParcel, StateIsOne}

-- a list has its first element, and its second
pub has_first : (cell : Cell) (cells : List Cell) → Contains (cell ∷ cells) cell
has_first cell cells = (0, omega arith, refl)

pub has_second : (one cell : Cell) (cells : List Cell) → Contains (one ∷ cell ∷ cells) cell
has_second one cell cells = (1, omega arith, refl)

-- a number in one cell leaves each other cell as it was
pub with_number_other : (cells : Cells) (cell other : Cell) (n : ℕ) → ¬ (other ≡ cell) → with_number cells cell n other ≡ cells other
with_number_other cells cell other n differ =
    cond-false (is_same other cell) n (cells other) (false_from_ne_true (is_same other cell) (λ same. differ (cell_eq_same other cell same)))

-- equal numbers in one cell keep the agreement of another
pub with_number_agree : (one other : Cells) (cell at : Cell) (m n : ℕ) → m ≡ n → one at ≡ other at
    → with_number one cell m at ≡ with_number other cell n at
with_number_agree one other cell at m n same here = ap₂ (cond (is_same at cell)) same here

-- what an operation names
abbrev pub Names : Op → Cell → Type 0
Names op cell = Contains (cells_of_op op) cell

not_first : (cell other : Cell) (cells : List Cell) → ¬ Contains (cell ∷ cells) other → ¬ (other ≡ cell)
not_first cell other cells none same = none (subst (λ c. Contains (cell ∷ cells) c) (sym same) (has_first cell cells))

not_second : (one cell other : Cell) (cells : List Cell) → ¬ Contains (one ∷ cell ∷ cells) other → ¬ (other ≡ cell)
not_second one cell other cells none same =
    none (subst (λ c. Contains (one ∷ cell ∷ cells) c) (sym same) (has_second one cell cells))

pub effect_other : (op : Op) (cells : Cells) (cell : Cell) → ¬ Names op cell → effect op cells cell ≡ cells cell
effect_other (Set c value) cells cell none = with_number_other cells c cell value (not_first c cell [] none)
effect_other (Add c value) cells cell none = with_number_other cells c cell ((cells c + value) % 2 ^ 64) (not_first c cell [] none)
effect_other (Copy c d) cells cell none = with_number_other cells c cell (cells d) (not_first c cell (d ∷ []) none)
effect_other (Swap c d) cells cell none =
    with_number_other (with_number cells c (cells d)) d cell (cells c) (not_second c d cell [] none)
    ∙ with_number_other cells c cell (cells d) (not_first c cell (d ∷ []) none)
effect_other (Read c) cells cell none = refl

pub effect_agree : (op : Op) (one other : Cells) → ((cell : Cell) → Names op cell → one cell ≡ other cell)
    → (cell : Cell) → one cell ≡ other cell → effect op one cell ≡ effect op other cell
effect_agree (Set c value) one other agree cell here = with_number_agree one other c cell value value refl here
effect_agree (Add c value) one other agree cell here =
    with_number_agree one other c cell _ _ (ap (λ n. (n + value) % 2 ^ 64) (agree c (has_first c []))) here
effect_agree (Copy c d) one other agree cell here =
    with_number_agree one other c cell (one d) (other d) (agree d (has_second c d [])) here
effect_agree (Swap c d) one other agree cell here =
    with_number_agree (with_number one c (one d)) (with_number other c (other d)) d cell (one c) (other c)
    (agree c (has_first c (d ∷ [])))
    (with_number_agree one other c cell (one d) (other d) (agree d (has_second c d [])) here)
effect_agree (Read c) one other agree cell here = here

-- a cell that the operations do not name stays as it was
pub meaning_other : (ops : List Op) → OtherCellsStay ops
meaning_other [] cells cell none = refl
meaning_other (op ∷ ops) cells cell none =
    meaning_other ops (effect op cells) cell (λ named. none (Contains-append_right (cells_of_op op) (cells_of ops) cell named))
    ∙ effect_other op cells cell (λ named. none (Contains-append_left (cells_of_op op) (cells_of ops) cell named))

-- what operations leave depends on the cells that they name alone
pub meaning_agree : (ops : List Op) → NamedCellsDecide ops
meaning_agree [] one other agree cell here = here
meaning_agree (op ∷ ops) one other agree cell here =
    let by_op : (c : Cell) → Names op c → one c ≡ other c
    = λ c named. agree c (Contains-append_left (cells_of_op op) (cells_of ops) c named) in
    meaning_agree ops (effect op one) (effect op other)
    (λ c named. effect_agree op one other by_op c (agree c (Contains-append_right (cells_of_op op) (cells_of ops) c named)))
    cell (effect_agree op one other by_op cell here)

-- affinities at or above one affinity exclude each other
pub exclude_at_one : (tree : List Node) → ThoseAboveExclude tree
exclude_at_one tree a one other one_above other_above = comparable tree one other a one_above other_above

-- operations of an affinity that is not at or above a leave a's parcel as it was
pub leaves_parcel : (layout : Hierarchy) (ops : List Op) → OthersLeaveParcel layout ops
leaves_parcel layout ops m a covers apart cells cell is_cell owned =
    meaning_other ops cells cell (λ named. apart (subst (λ x. AtOrAbove layout.tree m x) owned (covers cell named)))

-- the sizes of rows are those of each row
row_size : (rows : List (List ℕ)) (sizes : List ℕ) (i : ℕ) → HasSizes rows sizes → i < length rows
    → length (get_or rows i []) ≡ get_or sizes i 0
row_size rows sizes i sized within =
    sym (get_or-map length rows i [] 0 within) ∙ ap (λ xs. get_or xs i 0) sized

-- rows of the same sizes with the same number in each cell are the same
pub rows_are_one : (sizes : List ℕ) (cells : Cells) → StateIsOne sizes cells
rows_are_one sizes cells one other is_one is_other =
    let count : length one ≡ length other
    = sym (length-map one length) ∙ ap length (is_one.sized ∙ sym is_other.sized) ∙ length-map other length in
    ext_get_or [] one other count (λ i within.
    let row : length (get_or one i []) ≡ length (get_or other i [])
    = row_size one sizes i is_one.sized within ∙ sym (row_size other sizes i is_other.sized (omega (arith, count))) in
    ext_get_or 0 (get_or one i []) (get_or other i []) row (λ j short.
    let cell : Cell = record { space = i; index = j } in
    is_one.holds cell ∙ sym (is_other.holds cell)))
