-- What holds of the parcels of all layouts.
use Rattle.std.specs.Prelude.{◌≡◌, ℕ, ◌<◌, List}
use Rattle.waff_model.specs.declared.cell.Cell.{Cell}
use Rattle.waff_model.specs.Layout.{Space, IsCell, owner_of}
use Rattle.waff_model.specs.Parcel.{parcel_size, offset_of}

-- the offset of a cell is below the size of its owner's parcel
abbrev pub OffsetsAreWithin : List Space → Type 0
OffsetsAreWithin spaces =
    (cell : Cell) → IsCell spaces cell
    → offset_of spaces cell < parcel_size spaces (owner_of spaces cell)

-- two cells of one owner that have the same offset are the same cell
abbrev pub OffsetsAreApart : List Space → Type 0
OffsetsAreApart spaces =
    (one other : Cell) → IsCell spaces one → IsCell spaces other
    → owner_of spaces one ≡ owner_of spaces other → offset_of spaces one ≡ offset_of spaces other
    → one ≡ other

-- every number below the size of a parcel is the offset of a cell that the affinity owns
abbrev pub OffsetsAreFilled : List Space → Type 0
OffsetsAreFilled spaces =
    (a n : ℕ) → n < parcel_size spaces a
    → (cell : Cell) × IsCell spaces cell × (owner_of spaces cell ≡ a) × (offset_of spaces cell ≡ n)
