-- Parcels: the cells that each affinity owns, in the order of cells, by space, then index.
use Rattle.std.specs.Prelude.{ℕ, ◌+◌, ◌==◌, List, map, take, count_by, sum_by, flat_map}
use Rattle.std.specs.List.{range_with_len}
use Rattle.waff_model.specs.declared.cell.Cell.{Cell}
use Rattle.waff_model.specs.Layout.{Space, owner_at, owner_of}

-- the owners of the cells of a space, by index
abbrev pub owners_across : Space → List ℕ
owners_across space = map (owner_at space) (range_with_len 0 space.size)

-- the owners of all cells, in the order of cells
abbrev pub owners_in : List Space → List ℕ
owners_in spaces = flat_map owners_across spaces

-- how many cells are in the spaces before the space s
abbrev pub cells_ahead : List Space → ℕ → ℕ
cells_ahead spaces s = sum_by (λ space. space.size) (take s spaces)

-- how many cells come before this one
abbrev pub cells_before : List Space → Cell → ℕ
cells_before spaces cell = cells_ahead spaces cell.space + cell.index

-- how many of the cells with these owners the affinity a owns
abbrev pub count_of : ℕ → List ℕ → ℕ
count_of a owners = count_by (λ owner. owner == a) owners

-- how many cells the affinity a owns
abbrev pub parcel_size : List Space → ℕ → ℕ
parcel_size spaces a = count_of a (owners_in spaces)

-- how many of the first k cells the affinity a owns
abbrev pub owned_among : List Space → ℕ → ℕ → ℕ
owned_among spaces k a = count_of a (take k (owners_in spaces))

-- the offset of a cell in its owner's parcel: how many of the cells before it have its owner
abbrev pub offset_of : List Space → Cell → ℕ
offset_of spaces cell = owned_among spaces (cells_before spaces cell) (owner_of spaces cell)
