-- The files of the spaces of a layout: where each begins, and how many there are.
use Rattle.std.proofs.Common.{◌≡◌, ℕ, zero, suc, ◌+◌, ◌<◌, ◌≤◌, List, [], ◌∷◌, ◌++◌, length, take, take_all, Some, option_map, unwrap_or, slice_get, All, refl, ap, ap₂, sym, ◌∙◌, arith}
use Rattle.std.proofs.lemmas.List.Elements.{All-head, All-tail}
use Rattle.std.proofs.lemmas.List.{take-take}
use Rattle.std.proofs.lemmas.List.Sums.{sum_by-cons, sum_by-take-le}
use Rattle.waff_model.specs.declared.cell.Cell.{Cell}
use Rattle.waff_model.specs.declared.format.Format.{Format}
use Rattle.waff_model.specs.declared.limits.TheConstants.{MAX_OWNERS}
use Rattle.waff_model.specs.Tree.{Node}
use Rattle.waff_model.specs.Layout.{Space, IsSpace, owners_at, unit_at}
use Rattle.waff_run.specs.Places.{Placing, Striped, files_of, placing_of, spot_in, spot_of, striped_from}
use Rattle.waff_run.specs.declared.places.Spot.{Spot}

-- the map of space s is one of a layout
pub record IsMapped (spaces : List Space) (s : ℕ) : Type 0 where
  pub whole : 0 < unit_at spaces s
  pub some : 0 < owners_at spaces s
  pub few : owners_at spaces s ≤ MAX_OWNERS

pub mapped : {format : Format} (tree : List Node) (spaces : List Space) (s : ℕ) → All (IsSpace format tree) spaces → s < length spaces → IsMapped spaces s
mapped tree [] s each within = absurd (omega arith)
mapped tree (space ∷ spaces) zero each within =
    let is = All-head (IsSpace _ tree) space spaces each in
    record { whole = is.whole; some = is.owned; few = is.owners }
mapped tree (space ∷ spaces) (suc s) each within =
    let later = mapped tree spaces s (All-tail (IsSpace _ tree) space spaces each) (omega arith) in
    record { whole = later.whole; some = later.some; few = later.few }

files_of-cons : (space : Space) (spaces : List Space) → files_of (space ∷ spaces) ≡ length space.to + files_of spaces
files_of-cons space spaces = sum_by-cons (λ (s : Space). length s.to) space spaces

-- the files of one space more
pub files_more : (spaces : List Space) (s : ℕ) → s < length spaces → files_of (take (suc s) spaces) ≡ files_of (take s spaces) + owners_at spaces s
files_more [] s within = absurd (omega arith)
files_more (space ∷ spaces) zero within = omega (arith, files_of-cons space [])
files_more (space ∷ spaces) (suc s) within =
    omega (arith, files_of-cons space (take (suc s) spaces), files_of-cons space (take s spaces), files_more spaces s (omega arith))

-- those of fewer spaces are no more
pub files_fewer : (spaces : List Space) (k s : ℕ) → k ≤ s → files_of (take k spaces) ≤ files_of (take s spaces)
files_fewer spaces k s fewer =
    let less : files_of (take k (take s spaces)) ≤ files_of (take s spaces) = sum_by-take-le (λ (space : Space). length space.to) (take s spaces) k in
    let same : files_of (take k (take s spaces)) ≡ files_of (take k spaces) = ap files_of (take-take k s spaces fewer) in
    omega arith

pub files_within : (spaces : List Space) (s : ℕ) → s < length spaces → files_of (take s spaces) + owners_at spaces s ≤ files_of spaces
files_within spaces s within =
    let less : files_of (take (suc s) spaces) ≤ files_of spaces = sum_by-take-le (λ (space : Space). length space.to) spaces (suc s) in
    omega (arith, files_more spaces s within)

abbrev make : ℕ → ℕ → ℕ → Striped
make unit count first = record { unit = unit; count = count; first = first }

-- the files of space s, where those of the first space are numbered from `first` on
abbrev pub row_at : ℕ → List Space → ℕ → Striped
row_at first spaces s = record { unit = unit_at spaces s; count = owners_at spaces s; first = first + files_of (take s spaces) }

pub row_there : (first : ℕ) (spaces : List Space) (s : ℕ) → s < length spaces → slice_get (striped_from first spaces) s ≡ Some (row_at first spaces s)
row_there first [] s within = absurd (omega arith)
row_there first (space ∷ spaces) zero within =
    let top : first ≡ first + files_of [] = omega arith in
    ap (λ n. Some (make space.unit (length space.to) n)) top
row_there first (space ∷ spaces) (suc s) within =
    let files : first + length space.to + files_of (take s spaces) ≡ first + files_of (space ∷ take s spaces) = omega (arith, files_of-cons space (take s spaces)) in
    row_there (first + length space.to) spaces s (omega arith)
    ∙ ap (λ n. Some (make (unit_at spaces s) (owners_at spaces s) n)) files

pub length-striped : (first : ℕ) (spaces : List Space) → length (striped_from first spaces) ≡ length spaces
length-striped first [] = refl
length-striped first (space ∷ spaces) = ap suc (length-striped (first + length space.to) spaces)

-- the files of the first spaces, and of one more
pub striped_more : (first : ℕ) (spaces : List Space) (s : ℕ) → s < length spaces
    → striped_from first (take (suc s) spaces) ≡ striped_from first (take s spaces) ++ row_at first spaces s ∷ []
striped_more first [] s within = absurd (omega arith)
striped_more first (space ∷ spaces) zero within =
    let top : first ≡ first + files_of [] = omega arith in
    ap (λ n. make space.unit (length space.to) n ∷ []) top
striped_more first (space ∷ spaces) (suc s) within =
    let files : first + length space.to + files_of (take s spaces) ≡ first + files_of (space ∷ take s spaces) = omega (arith, files_of-cons space (take s spaces)) in
    ap (λ rows. make space.unit (length space.to) first ∷ rows) (striped_more (first + length space.to) spaces s (omega arith))
    ∙ ap (λ n. make space.unit (length space.to) first ∷ (striped_from (first + length space.to) (take s spaces) ++ make (unit_at spaces s) (owners_at spaces s) n ∷ [])) files

-- where a cell of one of the spaces lies
pub lies_in : (spaces : List Space) (bytes : ℕ) (cell : Cell) → cell.space < length spaces
    → spot_of (placing_of spaces bytes) cell ≡ spot_in (row_at 0 spaces cell.space) bytes cell.index
lies_in spaces bytes cell within =
    let none : Spot = record { file = files_of spaces; at = 0 } in
    ap (λ o. unwrap_or (option_map (λ (row : Striped). spot_in row bytes cell.index) o) none) (row_there 0 spaces cell.space within)

-- a number is that of one file
pub same_file : (spaces : List Space) (s p t q : ℕ) → p < owners_at spaces s → q < owners_at spaces t
    → files_of (take s spaces) + p ≡ files_of (take t spaces) + q → (s ≡ t) × (p ≡ q)
same_file [] s p t q one other same = absurd (omega arith)
same_file (space ∷ spaces) zero p zero q one other same = (refl, omega arith)
same_file (space ∷ spaces) zero p (suc t) q one other same = absurd (omega (arith, files_of-cons space (take t spaces)))
same_file (space ∷ spaces) (suc s) p zero q one other same = absurd (omega (arith, files_of-cons space (take s spaces)))
same_file (space ∷ spaces) (suc s) p (suc t) q one other same =
    let rest : files_of (take s spaces) + p ≡ files_of (take t spaces) + q = omega (arith, files_of-cons space (take s spaces), files_of-cons space (take t spaces)) in
    let both = same_file spaces s p t q one other rest in
    (ap suc both.0, both.1)

-- the row of one space more, of which unit, count and first file are known
pub rows_more : (spaces : List Space) (s unit count files : ℕ) (rows : List Striped) → s < length spaces
    → unit ≡ unit_at spaces s → count ≡ owners_at spaces s → files ≡ files_of (take s spaces) → rows ≡ striped_from 0 (take s spaces)
    → rows ++ make unit count files ∷ [] ≡ striped_from 0 (take (s + 1) spaces)
rows_more spaces s unit count files rows within is_unit is_count is_files is_rows =
    let first : files ≡ 0 + files_of (take s spaces) = omega (arith, is_files) in
    let next : suc s ≡ s + 1 = omega arith in
    ap (λ rows. rows ++ make unit count files ∷ []) is_rows
    ∙ ap (λ n. striped_from 0 (take s spaces) ++ make n count files ∷ []) is_unit
    ∙ ap (λ n. striped_from 0 (take s spaces) ++ make (unit_at spaces s) n files ∷ []) is_count
    ∙ ap (λ n. striped_from 0 (take s spaces) ++ make (unit_at spaces s) (owners_at spaces s) n ∷ []) first
    ∙ sym (striped_more 0 spaces s within)
    ∙ ap (λ n. striped_from 0 (take n spaces)) next

pub count_more : (spaces : List Space) (s count files : ℕ) → s < length spaces → count ≡ owners_at spaces s → files ≡ files_of (take s spaces)
    → files + count ≡ files_of (take (s + 1) spaces)
count_more spaces s count files within is_count is_files =
    let next : suc s ≡ s + 1 = omega arith in
    let more : files + count ≡ files_of (take (suc s) spaces) = omega (arith, is_count, is_files, files_more spaces s within) in
    more ∙ ap (λ n. files_of (take n spaces)) next

-- all spaces
pub all_placed : (spaces : List Space) (n files bytes : ℕ) (rows : List Striped) → length spaces ≤ n
    → rows ≡ striped_from 0 (take n spaces) → files ≡ files_of (take n spaces)
    → let placing : Placing = record { spaces = rows; files = files; bytes = bytes } in placing ≡ placing_of spaces bytes
all_placed spaces n files bytes rows all is_rows is_files =
    let place : List Striped → ℕ → Placing = λ rows files. record { spaces = rows; files = files; bytes = bytes } in
    let whole = take_all n spaces all in
    ap₂ place (is_rows ∙ ap (striped_from 0) whole) (is_files ∙ ap files_of whole)
