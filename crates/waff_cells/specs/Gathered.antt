-- Cells that lie in the parcels of their owners.
use Rattle.std.specs.Prelude.{ℕ, List, length, map}
use Rattle.waff_model.specs.Layout.{Space, IsCell}
use Rattle.waff_model.specs.declared.cell.Cell.{Cell}
use Rattle.waff_cells.specs.Held.{IsWithin, number_at}
use Rattle.waff_cells.specs.Meaning.{Cells}
use Rattle.waff_cells.specs.Parcel.{lies_at}

-- each cell lies in the parcels, of which there is one for each affinity
abbrev pub LieIn : List Space → List (List ℕ) → Type 0
LieIn spaces parcels =
    (cell : Cell) → IsCell spaces cell → IsWithin (map length parcels) (lies_at spaces cell)

-- the number that each cell has in the parcels
abbrev pub cells_of_parcels : List Space → List (List ℕ) → Cells
cells_of_parcels spaces parcels = λ cell. number_at parcels (lies_at spaces cell)
