-- Rows of zeros.
use Rattle.std.proofs.Common.{◌≡◌, ℕ, zero, suc, ◌+◌, ◌<◌, List, [], ◌∷◌, ◌++◌, length, map, get_or, take, replicate, refl, ◌∙◌, ap, ap₂, arith}
use Rattle.std.proofs.lemmas.List.{length-replicate, map_more, length-map}
use Rattle.waff_model.specs.Layout.{Space, size_at}
use Rattle.waff_model.specs.Messages.{sizes_of}
use Rattle.waff_model.specs.declared.cell.Cell.{Cell}
use Rattle.waff_cells.specs.Grid.{cells_in, HasSizes}

-- rows of these sizes in which every number is 0
abbrev pub zero_rows : List ℕ → List (List ℕ)
zero_rows sizes = map (λ n. replicate n 0) sizes

pub zero_sizes : (sizes : List ℕ) → HasSizes (zero_rows sizes) sizes
zero_sizes [] = refl
zero_sizes (n ∷ sizes) = ap₂ (λ (x : ℕ) (xs : List ℕ). x ∷ xs) (length-replicate n 0) (zero_sizes sizes)

pub zero_at : (n i : ℕ) → let z : ℕ = 0 in get_or (replicate n z) i z ≡ z
zero_at zero i = refl
zero_at (suc n) zero = refl
zero_at (suc n) (suc i) = zero_at n i

zero_row : (sizes : List ℕ) (s i : ℕ) → get_or (get_or (zero_rows sizes) s []) i 0 ≡ 0
zero_row [] s i = refl
zero_row (n ∷ sizes) zero i = zero_at n i
zero_row (n ∷ sizes) (suc s) i = zero_row sizes s i

pub zero_cells : (sizes : List ℕ) (cell : Cell) → cells_in (zero_rows sizes) cell ≡ 0
zero_cells sizes cell = zero_row sizes cell.space cell.index

pub size_is : (spaces : List Space) (s : ℕ) → get_or (sizes_of spaces) s 0 ≡ size_at spaces s
size_is [] s = refl
size_is (space ∷ spaces) zero = refl
size_is (space ∷ spaces) (suc s) = size_is spaces s

-- one row more
pub zero_more : (spaces : List Space) (s : ℕ) → s < length spaces
    → zero_rows (take (s + 1) (sizes_of spaces)) ≡ zero_rows (take s (sizes_of spaces)) ++ replicate (size_at spaces s) 0 ∷ []
zero_more spaces s within =
    let inside : s < length (sizes_of spaces) = omega (arith, length-map spaces (λ (space : Space). space.size)) in
    map_more (λ n. replicate n 0) (sizes_of spaces) s 0 inside
    ∙ ap (λ n. zero_rows (take s (sizes_of spaces)) ++ replicate n 0 ∷ []) (size_is spaces s)
