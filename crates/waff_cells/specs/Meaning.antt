-- What the operations of a message do to cells. The operations are this project's own.
use Rattle.std.specs.Prelude.{ℕ, ◌+◌, ◌%◌, ◌^◌, ◌==◌, ◌&&◌, Bool, List, [], ◌∷◌, if◌then◌else◌}
use Rattle.waff_model.specs.declared.cell.Cell.{Cell}
use Rattle.waff_model.specs.declared.op.Op.{Op}
use Rattle.waff_model.specs.declared.op.Op.TheVariants.{Set, Add, Copy, Swap, Read}

-- the number that each cell holds
abbrev pub Cells : Type 0
Cells = Cell → ℕ

-- whether two cells are the same
abbrev pub is_same : Cell → Cell → Bool
is_same one other = one.space == other.space && one.index == other.index

-- the cells, with this number in one of them
abbrev pub with_number : Cells → Cell → ℕ → Cells
with_number cells cell n = λ other. if is_same other cell then n else cells other

-- what one operation does; `copy` and `swap` of a cell with itself change nothing
abbrev pub effect : Op → Cells → Cells
effect (Set cell value) cells = with_number cells cell value
effect (Add cell value) cells = with_number cells cell ((cells cell + value) % 2 ^ 64)
effect (Copy cell source) cells = with_number cells cell (cells source)
effect (Swap cell other) cells =
    with_number (with_number cells cell (cells other)) other (cells cell)
effect (Read cell) cells = cells

-- the meaning of a message: what its operations do, in the order written
abbrev pub meaning : List Op → Cells → Cells
meaning [] cells = cells
meaning (op ∷ ops) cells = meaning ops (effect op cells)
