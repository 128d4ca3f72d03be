-- The lines of a state, cell by cell and space by space.
use Rattle.std.proofs.Common.{◌≡◌, ℕ, ◌+◌, ◌<◌, ◌==◌, Bool, not, true, false, cond, List, [], ◌∷◌, ◌++◌, map, length, Some, unwrap_or, decimal, arith, refl, sym, ◌∙◌, ap, append_assoc}
use Rattle.std.specs.List.{filter, flat_map, join_with_byte, range_with_len}
use Rattle.std.proofs.lemmas.Bool.{eqb-true, false_from_ne_true}
use Rattle.std.proofs.lemmas.Grind.{flat_map-append}
use Rattle.std.proofs.lemmas.List.{append-nil, flat_map_more, get_or-map, get_or_default, length-map, map-append, same_lists}
use Rattle.std.proofs.lemmas.List.Elements.{filter-append}
use Rattle.std.proofs.lemmas.List.FromFn.{filter_of_map_range_with_len_more}
use Rattle.waff_model.specs.Layout.{Space, name_at, size_at}
use Rattle.waff_model.specs.Messages.{sizes_of}
use Rattle.waff_model.specs.declared.cell.Cell.{Cell}
use Rattle.waff_read.specs.Spellings.{cell_spelled}
use Rattle.waff_cells.specs.Meaning.{Cells}
use Rattle.waff_cells.proofs.Zeros.{size_is}
use Rattle.waff_plan.proofs.Longest.{range_with_len_more}
use Rattle.waff_plan_text.specs.Lines.{line_text, text_of}
use Rattle.waff_tool.specs.PrintedSpaces.{AreAllPrinted}
use Rattle.waff_cells.specs.InOrder.{cells_below, cells_of_first}
use Rattle.waff_tool.specs.ReplayText.{cell_line, cell_lines, is_told, state_header, state_lines}
use Rattle.waff_tool.specs.declared.state_text.PrintedSpace.{PrintedSpace}

abbrev cell_at : ℕ → ℕ → Cell
cell_at s n = record { space = s; index = n }

map_cond : {X Y : Type 0} (f : X → Y) (b : Bool) (x : X) (xs : List X) → map f (cond b (x ∷ xs) xs) ≡ cond b (f x ∷ map f xs) (map f xs)
map_cond f true x xs = refl
map_cond f false x xs = refl

-- the lines of one cell more
lines_more : (spaces : List Space) (cells : Cells) (s n : ℕ)
    → cell_lines spaces cells (cells_below s (n + 1)) ≡ cell_lines spaces cells (cells_below s n)
    ++ cond (not (cells (cell_at s n) == 0)) (cell_line spaces cells (cell_at s n) ∷ []) []
lines_more spaces cells s n =
    let line = cell_line spaces cells in
    let told = not (cells (cell_at s n) == 0) in
    let here : 0 + n ≡ n = omega arith in
    ap (map line) (filter_of_map_range_with_len_more (is_told cells) (cell_at s) 0 n n here)
    ∙ map-append line (filter (is_told cells) (cells_below s n)) (cond told (cell_at s n ∷ []) [])
    ∙ ap (λ ls. cell_lines spaces cells (cells_below s n) ++ ls) (map_cond line told (cell_at s n) [])

is_not_0 : (n : ℕ) → (n ≡ 0 → ⊥) → not (n == 0) ≡ true
is_not_0 n other = ap not (false_from_ne_true (n == 0) (λ same. other (eqb-true n 0 same)))

is_0 : (n : ℕ) → n ≡ 0 → not (n == 0) ≡ false
is_0 n same = ap (λ m. not (m == 0)) same

-- a cell that is told of
pub told_further : (spaces : List Space) (cells : Cells) (s n value : ℕ) (name before so_far now : List ℕ)
    → cells (cell_at s n) ≡ value → (value ≡ 0 → ⊥) → name_at spaces s ≡ Some name
    → so_far ≡ before ++ text_of (cell_lines spaces cells (cells_below s n))
    → now ≡ so_far ++ line_text (join_with_byte 58 (name ∷ decimal n ∷ []) ∷ decimal value ∷ [])
    → now ≡ before ++ text_of (cell_lines spaces cells (cells_below s (n + 1)))
told_further spaces cells s n value name before so_far now valued told named h k =
    let lines = cell_lines spaces cells (cells_below s n) in
    let row = cell_line spaces cells (cell_at s n) in
    let is_row : join_with_byte 58 (name ∷ decimal n ∷ []) ∷ decimal value ∷ [] ≡ row =
    ap (λ o. join_with_byte 58 (unwrap_or o [] ∷ decimal n ∷ []) ∷ decimal value ∷ []) (sym named)
    ∙ ap (λ v. cell_spelled spaces (cell_at s n) ∷ decimal v ∷ []) (sym valued) in
    let more : cell_lines spaces cells (cells_below s (n + 1)) ≡ lines ++ row ∷ [] =
    lines_more spaces cells s n
    ∙ ap (λ b. lines ++ cond b (row ∷ []) []) (ap (λ v. not (v == 0)) valued ∙ is_not_0 value told) in
    k ∙ ap (λ bs. bs ++ line_text (join_with_byte 58 (name ∷ decimal n ∷ []) ∷ decimal value ∷ [])) h
    ∙ ap (λ r. (before ++ text_of lines) ++ line_text r) is_row
    ∙ flat_map_more line_text before lines row
    ∙ ap (λ ls. before ++ text_of ls) (sym more)

-- a cell that is not
pub untold_further : (spaces : List Space) (cells : Cells) (s n value : ℕ) (before now : List ℕ)
    → cells (cell_at s n) ≡ value → value ≡ 0
    → now ≡ before ++ text_of (cell_lines spaces cells (cells_below s n))
    → now ≡ before ++ text_of (cell_lines spaces cells (cells_below s (n + 1)))
untold_further spaces cells s n value before now valued untold h =
    let lines = cell_lines spaces cells (cells_below s n) in
    let row = cell_line spaces cells (cell_at s n) in
    let more : cell_lines spaces cells (cells_below s (n + 1)) ≡ lines ++ [] =
    lines_more spaces cells s n
    ∙ ap (λ b. lines ++ cond b (row ∷ []) []) (ap (λ v. not (v == 0)) valued ∙ is_0 value untold) in
    h ∙ ap (λ ls. before ++ text_of ls) (sym (append-nil lines) ∙ sym more)

-- the cells of one space more
pub space_further : (spaces : List Space) (cells : Cells) (s size : ℕ) (before so_far now : List ℕ) → size_at spaces s ≡ size
    → so_far ≡ before ++ text_of (cell_lines spaces cells (cells_of_first spaces s))
    → now ≡ so_far ++ text_of (cell_lines spaces cells (cells_below s size))
    → now ≡ before ++ text_of (cell_lines spaces cells (cells_of_first spaces (s + 1)))
space_further spaces cells s size before so_far now sized h k =
    let row = cell_line spaces cells in
    let told = is_told cells in
    let of_space = λ (s : ℕ). cells_below s (size_at spaces s) in
    let here : 0 + s ≡ s = omega arith in
    let all : cells_of_first spaces (s + 1) ≡ cells_of_first spaces s ++ of_space s =
    ap (flat_map of_space) (range_with_len_more 0 s s here) ∙ sym (flat_map_more of_space [] (range_with_len 0 s) s) in
    let lines : cell_lines spaces cells (cells_of_first spaces (s + 1)) ≡ cell_lines spaces cells (cells_of_first spaces s) ++ cell_lines spaces cells (of_space s) =
    ap (cell_lines spaces cells) all
    ∙ ap (map row) (filter-append told (cells_of_first spaces s) (of_space s))
    ∙ map-append row (filter told (cells_of_first spaces s)) (filter told (of_space s)) in
    k ∙ ap (λ bs. bs ++ text_of (cell_lines spaces cells (cells_below s size))) h
    ∙ ap (λ z. (before ++ text_of (cell_lines spaces cells (cells_of_first spaces s))) ++ text_of (cell_lines spaces cells (cells_below s z))) (sym sized)
    ∙ append_assoc before (text_of (cell_lines spaces cells (cells_of_first spaces s))) (text_of (cell_lines spaces cells (of_space s)))
    ∙ ap (λ bs. before ++ bs)
    (sym (flat_map-append line_text (cell_lines spaces cells (cells_of_first spaces s)) (cell_lines spaces cells (of_space s))) ∙ ap text_of (sym lines))

-- states with the same numbers have the same lines
cell_lines_same : (spaces : List Space) (one other : Cells) → ((cell : Cell) → one cell ≡ other cell) → (some : List Cell)
    → cell_lines spaces one some ≡ cell_lines spaces other some
cell_lines_same spaces one other same [] = refl
cell_lines_same spaces one other same (cell ∷ some) =
    let lines = cell_lines spaces one some in
    let chosen : ℕ → List (List (List ℕ)) → List (List (List ℕ)) =
    λ n ls. cond (not (n == 0)) ((cell_spelled spaces cell ∷ decimal n ∷ []) ∷ ls) ls in
    map_cond (cell_line spaces one) (is_told one cell) cell (filter (is_told one) some)
    ∙ ap (λ n. chosen n lines) (same cell)
    ∙ ap (chosen (other cell)) (cell_lines_same spaces one other same some)
    ∙ sym (map_cond (cell_line spaces other) (is_told other cell) cell (filter (is_told other) some))

pub state_lines_same : (spaces : List Space) (one other : Cells) → ((cell : Cell) → one cell ≡ other cell)
    → state_lines spaces one ≡ state_lines spaces other
state_lines_same spaces one other same =
    ap (λ ls. state_header ∷ ls) (cell_lines_same spaces one other same (cells_of_first spaces (length spaces)))

-- of no space
nowhere : PrintedSpace
nowhere = record { name = []; size = 0 }

-- the sizes that are printed are those of the spaces
pub printed_sizes : (spaces : List Space) (printed : List PrintedSpace) → AreAllPrinted spaces printed
    → sizes_of spaces ≡ map (λ space. space.size) printed
printed_sizes spaces printed all =
    let size : PrintedSpace → ℕ = λ space. space.size in
    let count : length (sizes_of spaces) ≡ length printed = length-map spaces (λ (space : Space). space.size) ∙ sym all.count in
    same_lists (sizes_of spaces) (map size printed) (count ∙ sym (length-map printed size))
    (λ s d within.
    let inside : s < length printed = omega (arith, within, count) in
    get_or_default (sizes_of spaces) s d 0 within
    ∙ size_is spaces s
    ∙ all.each.size s nowhere inside
    ∙ sym (get_or-map size printed s nowhere d inside))
