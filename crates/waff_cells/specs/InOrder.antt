-- The cells of a layout in their order: by space, then by index.
use Rattle.std.specs.Prelude.{ℕ, List, length, map, flat_map}
use Rattle.std.specs.List.{range_with_len}
use Rattle.waff_model.specs.Layout.{Space, size_at}
use Rattle.waff_model.specs.declared.cell.Cell.{Cell}

-- the cells of the space s below an index
abbrev pub cells_below : ℕ → ℕ → List Cell
cells_below s end = map (λ i. record { space = s; index = i }) (range_with_len 0 end)

-- the cells of the space s
abbrev pub cells_across : List Space → ℕ → List Cell
cells_across spaces s = cells_below s (size_at spaces s)

-- the cells of the first spaces, of so many
abbrev pub cells_of_first : List Space → ℕ → List Cell
cells_of_first spaces count = flat_map (cells_across spaces) (range_with_len 0 count)

-- all cells
abbrev pub all_cells : List Space → List Cell
all_cells spaces = cells_of_first spaces (length spaces)
