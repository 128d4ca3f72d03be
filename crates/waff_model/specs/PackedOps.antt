-- Operations of small numbers, and the operations for which they stand.
use Rattle.std.specs.Prelude.{ℕ, ◌<◌, ◌^◌}
use Rattle.waff_model.specs.declared.cell.Cell.{Cell}
use Rattle.waff_model.specs.declared.op.Op.{Op}
use Rattle.waff_model.specs.declared.op.Op.TheVariants as op
use Rattle.waff_model.specs.declared.packed_op.PackedOp.{PackedOp}
use Rattle.waff_model.specs.declared.op.Verb.{Verb}
use Rattle.waff_model.specs.declared.op.Verb.TheVariants as verb

-- the spaces and the value of the operation are small
abbrev pub IsSmall : Op → Type 0
IsSmall (op.Set cell value) = (cell.space < 2 ^ 8) × (value < 2 ^ 32)
IsSmall (op.Add cell value) = (cell.space < 2 ^ 8) × (value < 2 ^ 32)
IsSmall (op.Copy cell source) = (cell.space < 2 ^ 8) × (source.space < 2 ^ 8)
IsSmall (op.Swap cell other) = (cell.space < 2 ^ 8) × (other.space < 2 ^ 8)
IsSmall (op.Read cell) = cell.space < 2 ^ 8

-- the cell with this index in a space
abbrev pub cell_at : ℕ → ℕ → Cell
cell_at space index = record { space = space; index = index }

-- the operation of a verb, a cell, and another cell or a value where the verb wants one
abbrev pub op_by : Verb → Cell → Cell → ℕ → Op
op_by verb.Set cell other value = op.Set cell value
op_by verb.Add cell other value = op.Add cell value
op_by verb.Copy cell other value = op.Copy cell other
op_by verb.Swap cell other value = op.Swap cell other
op_by verb.Read cell other value = op.Read cell

-- the operation for which a packed one stands
abbrev pub op_of : PackedOp → Op
op_of packed = op_by packed.verb (cell_at packed.space packed.index)
    (cell_at packed.other_space packed.rest) packed.rest
