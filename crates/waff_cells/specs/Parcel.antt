-- Parcels: the numbers of the cells that an affinity owns, each cell's at its offset. Rows hold the
-- parcels of affinities, each in the row of its affinity's number.
use Rattle.std.specs.Prelude.{◌≡◌, ℕ, List, [], Some, Contains, length, map, slice_get}
use Rattle.std.specs.Prelude.{slice_index_or}
use Rattle.waff_model.specs.declared.cell.Cell.{Cell}
use Rattle.waff_model.specs.Layout.{Space, IsCell, owner_of}
use Rattle.waff_model.specs.Parcel.{parcel_size, offset_of}
use Rattle.waff_cells.specs.Meaning.{Cells}
use Rattle.waff_cells.specs.Held.{Address, IsWithin}

-- these numbers are a's parcel: as many as the cells that a owns, each cell's at its offset
pub record IsParcel (spaces : List Space) (a : ℕ) (cells : Cells) (numbers : List ℕ) : Type 0 where
  pub count : length numbers ≡ parcel_size spaces a
  pub each : (cell : Cell) → IsCell spaces cell → owner_of spaces cell ≡ a
      → slice_get numbers (offset_of spaces cell) ≡ Some (cells cell)

-- the rows of these affinities are their parcels
abbrev pub AreParcels : List Space → List ℕ → Cells → List (List ℕ) → Type 0
AreParcels spaces owners cells rows =
    (a : ℕ) → Contains owners a → IsParcel spaces a cells (slice_index_or rows a [])

-- the rows of these affinities have the sizes of their parcels
abbrev pub HaveParcelSizes : List Space → List ℕ → List (List ℕ) → Type 0
HaveParcelSizes spaces owners rows =
    (a : ℕ) → Contains owners a → length (slice_index_or rows a []) ≡ parcel_size spaces a

-- the cell is one of the parcels of these affinities
pub record IsOwned (spaces : List Space) (owners : List ℕ) (cell : Cell) : Type 0 where
  pub there : IsCell spaces cell
  pub owned : Contains owners (owner_of spaces cell)

-- where a cell lies: in the parcel of its owner, at its offset
abbrev pub lies_at : List Space → Cell → Address
lies_at spaces cell = (owner_of spaces cell, offset_of spaces cell)

-- the cell is there, and lies in the rows
pub record IsHeld (spaces : List Space) (rows : List (List ℕ)) (cell : Cell) : Type 0 where
  pub there : IsCell spaces cell
  pub within : IsWithin (map length rows) (lies_at spaces cell)
