-- The cells that operations name, and whether a cell lies in spaces of given sizes.
use Rattle.std.specs.Prelude.{ℕ, ◌<◌, List, [], ◌∷◌, slice_index}
use Rattle.std.specs.List.{flat_map}
use Rattle.waff_model.specs.declared.cell.Cell.{Cell}
use Rattle.waff_model.specs.declared.op.Op.{Op}
use Rattle.waff_model.specs.declared.op.Op.TheVariants.{Set, Add, Copy, Swap, Read}

-- the cells that an operation names
abbrev pub cells_of_op : Op → List Cell
cells_of_op (Set cell value) = cell ∷ []
cells_of_op (Add cell value) = cell ∷ []
cells_of_op (Copy cell source) = cell ∷ source ∷ []
cells_of_op (Swap cell other) = cell ∷ other ∷ []
cells_of_op (Read cell) = cell ∷ []

-- the cells that operations name, in order
abbrev pub cells_of : List Op → List Cell
cells_of ops = flat_map cells_of_op ops

-- the cells that an operation writes
abbrev pub cells_written_by : Op → List Cell
cells_written_by (Set cell value) = cell ∷ []
cells_written_by (Add cell value) = cell ∷ []
cells_written_by (Copy cell source) = cell ∷ []
cells_written_by (Swap cell other) = cell ∷ other ∷ []
cells_written_by (Read cell) = []

-- the cells that operations write, in order
abbrev pub cells_written : List Op → List Cell
cells_written ops = flat_map cells_written_by ops

-- the cell lies in spaces of these sizes: its space is one of them, and its index is below the size
abbrev pub LiesIn : List ℕ → Cell → Type 0
LiesIn sizes cell = cell.index < slice_index sizes cell.space
