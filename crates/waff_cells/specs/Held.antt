-- Rows of numbers that hold cells, each cell at an address of its own. The rows of a state and the
-- parcels that a message holds are such rows.
use Rattle.std.specs.Prelude.{ℕ, ◌<◌, List, [], All, map, slice_index, slice_index_or}
use Rattle.std.specs.Global.{Vec}
use Rattle.waff_model.specs.declared.cell.Cell.{Cell}

-- the numbers of each row
abbrev pub rows_of : List (Vec ℕ) → List (List ℕ)
rows_of vecs = map (λ row. row.items) vecs

-- an address: a row, and a column in it
abbrev pub Address : Type 0
Address = ℕ × ℕ

-- the number at an address, 0 where there is no such address
abbrev pub number_at : List (List ℕ) → Address → ℕ
number_at rows address = slice_index_or (slice_index_or rows address.0 []) address.1 0

-- the address lies in rows of these sizes
abbrev pub IsWithin : List ℕ → Address → Type 0
IsWithin sizes address = address.1 < slice_index sizes address.0

-- the addresses of these cells lie in rows of these sizes
abbrev pub AreWithin : List ℕ → (Cell → Address) → List Cell → Type 0
AreWithin sizes at cells = All (λ cell. IsWithin sizes (at cell)) cells
