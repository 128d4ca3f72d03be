-- Numbers read from and written to rows that hold cells.
use Rattle.std.proofs.Common.{◌≡◌, ◌≢◌, ℕ, ◌<◌, ◌≤◌, true, false, List, [], length, map, set, get_or, Vec, Global, sym, ◌∙◌, ap, ap₂, subst, arith, ⊎_elim, get_or-set_same, get_or-set_other, length-set}
use Rattle.std.specs.Vec.{with_item}
use Rattle.std.proofs.lemmas.Bool.{cases_lt, cases_eq, cases_Bool, cond-true, cond-false, and_from, eq-eqb}
use Rattle.std.proofs.lemmas.List.{length-map, get_or-map, get_or_past, map-set, set-get_or}
use Rattle.waff_model.specs.declared.cell.Cell.{Cell}
use Rattle.waff_assign.proofs.CellOrder.{cell_eq_same}
use Rattle.waff_cells.specs.Meaning.{Cells, is_same, with_number}
use Rattle.waff_cells.specs.Held.{rows_of, Address, number_at, IsWithin}
use Rattle.waff_cells.proofs.HeldCells.{AreApart, Hold}
use Rattle.waff_cells.specs.RowEffects.{with_number_at}

-- the address is one of a row and of a column in it
pub record IsInside (rows : List (List ℕ)) (address : Address) : Type 0 where
  pub row : address.0 < length rows
  pub column : address.1 < length (get_or rows address.0 [])

pub inside : (rows : List (List ℕ)) (address : Address) → IsWithin (map length rows) address → IsInside rows address
inside rows address within =
    ⊎_elim {C = IsInside rows address}
    (λ (short : address.0 < length rows). record {
      row = short;
      column = subst (λ n. address.1 < n) (get_or-map length rows address.0 [] 0 short) within;
    })
    (λ (past : length rows ≤ address.0).
    let long : length (map length rows) ≤ address.0 = omega (arith, length-map rows length) in
    let none : get_or (map length rows) address.0 0 ≡ 0 = get_or_past (map length rows) address.0 0 long in
    absurd (omega (arith, within, none)))
    (cases_lt address.0 (length rows))

-- a write keeps the sizes
pub written_sizes : (rows : List (List ℕ)) (address : Address) (n : ℕ) → IsInside rows address
    → map length (with_number_at rows address n) ≡ map length rows
written_sizes rows address n is_inside =
    let i = address.0 in
    let row = get_or rows i [] in
    let size : length (set row address.1 n) ≡ get_or (map length rows) i 0
    = length-set row address.1 n ∙ sym (get_or-map length rows i [] 0 is_inside.row) in
    map-set length rows i (set row address.1 n) ∙ ap (set (map length rows) i) size ∙ set-get_or (map length rows) i 0

-- the number written, where it was written
pub written_here : (rows : List (List ℕ)) (address : Address) (n : ℕ) → IsInside rows address
    → number_at (with_number_at rows address n) address ≡ n
written_here rows address n is_inside =
    let row = get_or rows address.0 [] in
    ap (λ xs. get_or xs address.1 0) (get_or-set_same rows address.0 (set row address.1 n) [] is_inside.row)
    ∙ get_or-set_same row address.1 n 0 is_inside.column

address_same : (one other : Address) → one.0 ≡ other.0 → one.1 ≡ other.1 → one ≡ other
address_same one other row column = let pair : ℕ → ℕ → Address = λ i j. (i, j) in ap₂ pair row column

-- each other address keeps its number
pub written_other : (rows : List (List ℕ)) (address other : Address) (n : ℕ) → IsInside rows address → ¬ (other ≡ address)
    → number_at (with_number_at rows address n) other ≡ number_at rows other
written_other rows address other n is_inside differ =
    let row = get_or rows address.0 [] in
    ⊎_elim {C = number_at (with_number_at rows address n) other ≡ number_at rows other}
    (λ (same : other.0 ≡ address.0).
    ap (λ i. get_or (get_or (with_number_at rows address n) i []) other.1 0) same
    ∙ ap (λ xs. get_or xs other.1 0) (get_or-set_same rows address.0 (set row address.1 n) [] is_inside.row)
    ∙ get_or-set_other row address.1 other.1 n 0 (λ column. differ (address_same other address same column))
    ∙ ap (λ i. get_or (get_or rows i []) other.1 0) (sym same))
    (λ (apart : other.0 ≢ address.0).
    ap (λ xs. get_or xs other.1 0) (get_or-set_other rows address.0 other.0 (set row address.1 n) [] apart))
    (cases_eq other.0 address.0)

-- the same cell passes the test of equal cells
same_is : (one other : Cell) → one ≡ other → is_same one other ≡ true
same_is one other same =
    and_from _ _ (eq-eqb one.space other.space (ap (λ (cell : Cell). cell.space) same))
    (eq-eqb one.index other.index (ap (λ (cell : Cell). cell.index) same))

-- what rows held, they hold with a number written to a cell
pub written_holds : (Has : Cell → Type 0) (at : Cell → Address) → AreApart Has at
    → (rows : List (List ℕ)) (cell : Cell) (n : ℕ) → Has cell → IsInside rows (at cell)
    → (cells : Cells) → Hold Has at rows cells → Hold Has at (with_number_at rows (at cell) n) (with_number cells cell n)
written_holds Has at apart rows cell n has is_inside cells hold other has_other =
    ⊎_elim {C = number_at (with_number_at rows (at cell) n) (at other) ≡ with_number cells cell n other}
    (λ (passes : is_same other cell ≡ true).
    ap (λ c. number_at (with_number_at rows (at cell) n) (at c)) (cell_eq_same other cell passes)
    ∙ written_here rows (at cell) n is_inside ∙ sym (cond-true (is_same other cell) n (cells other) passes))
    (λ (fails : is_same other cell ≡ false).
    let differ : ¬ (at other ≡ at cell)
    = λ same. let passes : is_same other cell ≡ true = same_is other cell (apart other cell has_other has same) in cc in
    written_other rows (at cell) (at other) n is_inside differ
    ∙ hold other has_other ∙ sym (cond-false (is_same other cell) n (cells other) fails))
    (cases_Bool (is_same other cell))

-- the rows of vectors
abbrev items_of : Vec ℕ Global → List ℕ
items_of vec = vec.items

pub row_of : (vecs : List (Vec ℕ Global)) (i : ℕ) (vec : Vec ℕ Global) → i < length vecs
    → (get_or vecs i vec).items ≡ get_or (rows_of vecs) i []
row_of vecs i vec within = sym (get_or-map items_of vecs i vec [] within)

pub count_of : (vecs : List (Vec ℕ Global)) → length (rows_of vecs) ≡ length vecs
count_of vecs = length-map vecs items_of

pub written_rows : (vecs : List (Vec ℕ Global)) (address : Address) (vec : Vec ℕ Global) (n : ℕ) → address.0 < length vecs
    → rows_of (set vecs address.0 (with_item (get_or vecs address.0 vec) address.1 n)) ≡ with_number_at (rows_of vecs) address n
written_rows vecs address vec n within =
    map-set items_of vecs address.0 (with_item (get_or vecs address.0 vec) address.1 n)
    ∙ ap (λ xs. set (rows_of vecs) address.0 (set xs address.1 n)) (row_of vecs address.0 vec within)
