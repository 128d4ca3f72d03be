-- The table of the parcels of a layout.
use Rattle.std.specs.Prelude.{◌≡◌, ℕ, ◌<◌, List, length, map, slice_index}
use Rattle.std.specs.List.{range_with_len}
use Rattle.waff_model.specs.declared.cell.Cell.{Cell}
use Rattle.waff_model.specs.Layout.{Hierarchy, Space, size_at, owner_of}
use Rattle.waff_model.specs.Parcel.{offset_of, owned_among, parcel_size}

-- a number of each cell of the space s
abbrev pub across : List Space → (Cell → ℕ) → ℕ → List ℕ
across spaces number s =
    map (λ i. number (record { space = s; index = i })) (range_with_len 0 (size_at spaces s))

-- a number of each cell, in a row for each space
abbrev pub AreOfCells : List Space → (Cell → ℕ) → List (List ℕ) → Type 0
AreOfCells spaces number rows =
    rows ≡ map (across spaces number) (range_with_len 0 (length spaces))

-- for each affinity, how many of the first k cells it owns
abbrev pub AreCounted : List Space → ℕ → List ℕ → Type 0
AreCounted spaces k counts =
    (a : ℕ) → a < length counts → slice_index counts a ≡ owned_among spaces k a

-- the owners and the offsets of all cells, and the size of each affinity's parcel
pub record IsParcelTable (layout : Hierarchy) (owners offsets : List (List ℕ)) (sizes : List ℕ)
    : Type 0 where
  pub owned : AreOfCells layout.spaces (owner_of layout.spaces) owners
  pub placed : AreOfCells layout.spaces (offset_of layout.spaces) offsets
  pub count : length sizes ≡ length layout.tree
  pub each : (a : ℕ) → a < length sizes → slice_index sizes a ≡ parcel_size layout.spaces a
