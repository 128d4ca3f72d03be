-- What operations do to rows of numbers that hold each cell at its address.
use Rattle.std.specs.Prelude.{ℕ, ◌+◌, ◌%◌, ◌^◌, List, [], ◌∷◌, slice_set, slice_index_or}
use Rattle.waff_model.specs.declared.cell.Cell.{Cell}
use Rattle.waff_model.specs.declared.op.Op.{Op}
use Rattle.waff_model.specs.declared.op.Op.TheVariants.{Set, Add, Copy, Swap, Read}
use Rattle.waff_cells.specs.Held.{Address, number_at}

-- the rows, with this number at an address
abbrev pub with_number_at : List (List ℕ) → Address → ℕ → List (List ℕ)
with_number_at rows at n =
    slice_set rows at.0 (slice_set (slice_index_or rows at.0 []) at.1 n)

-- what one operation does to rows, with these addresses of its cells
abbrev pub row_effect : (Cell → Address) → Op → List (List ℕ) → List (List ℕ)
row_effect at (Set cell value) rows = with_number_at rows (at cell) value
row_effect at (Add cell value) rows =
    with_number_at rows (at cell) ((number_at rows (at cell) + value) % 2 ^ 64)
row_effect at (Copy cell source) rows =
    with_number_at rows (at cell) (number_at rows (at source))
row_effect at (Swap cell other) rows =
    with_number_at (with_number_at rows (at cell) (number_at rows (at other))) (at other)
    (number_at rows (at cell))
row_effect at (Read cell) rows = rows

-- what operations do to rows, in their order
abbrev pub row_meaning : (Cell → Address) → List Op → List (List ℕ) → List (List ℕ)
row_meaning at [] rows = rows
row_meaning at (op ∷ ops) rows = row_meaning at ops (row_effect at op rows)
