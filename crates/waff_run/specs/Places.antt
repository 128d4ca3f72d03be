-- Where cells lie: in a file for each affinity that the map of their space lists.
use Rattle.std.specs.Prelude.{ℕ, ◌+◌, ◌-◌, ◌*◌, ◌/◌, ◌%◌, ◌^◌, ◌<◌, ◌&&◌, Bool, nat_le, nat_lt, List, [], ◌∷◌, length}
use Rattle.std.specs.Prelude.{Option, option_map, unwrap_or, slice_get, position}
use Rattle.std.specs.List.{sum_by}
use Rattle.waff_model.specs.Layout.{Space}
use Rattle.waff_model.specs.declared.cell.Cell.{Cell}
use Rattle.waff_run.specs.declared.places.Spot.{Spot}

-- how the cells of a space lie in files: runs of `unit` cells in `count` files in turn, which are numbered from `first` on
pub record Striped : Type 0 where
  pub unit : ℕ
  pub count : ℕ
  pub first : ℕ

-- there is a file, to which at least one cell in a row goes, and its number is one of 64 bits
pub record IsStriped (space : Striped) : Type 0 where
  pub whole : 0 < space.unit
  pub some : 0 < space.count
  pub numbered : space.first + space.count < 2 ^ 64

-- how the cells of all spaces lie in files, how many files there are, and the bytes of a cell
pub record Placing : Type 0 where
  pub spaces : List Striped
  pub files : ℕ
  pub bytes : ℕ

-- how many files spaces have: one for each affinity that a map lists
abbrev pub files_of : List Space → ℕ
files_of spaces = sum_by (λ space. length space.to) spaces

-- spaces whose files are numbered from `first` on, those of each behind those of the spaces before it
abbrev pub striped_from : ℕ → List Space → List Striped
striped_from first [] = []
striped_from first (space ∷ spaces) =
    record { unit = space.unit; count = length space.to; first = first }
    ∷ striped_from (first + length space.to) spaces

-- the places of the cells of these spaces, of so many bytes each
abbrev pub placing_of : List Space → ℕ → Placing
placing_of spaces bytes =
    record { spaces = striped_from 0 spaces; files = files_of spaces; bytes = bytes }

-- how many cells of the space come before the one with this index in its file
abbrev pub rank_in : Striped → ℕ → ℕ
rank_in space index = index / space.unit / space.count * space.unit + index % space.unit

-- where the cell with this index of the space lies, of so many bytes
abbrev pub spot_in : Striped → ℕ → ℕ → Spot
spot_in space bytes index = record {
  file = space.first + index / space.unit % space.count;
  at = rank_in space index * bytes;
}

-- where a cell lies; one of no space lies in no file
abbrev pub spot_of : Placing → Cell → Spot
spot_of placing cell = unwrap_or
    (option_map (λ space. spot_in space placing.bytes cell.index)
    (slice_get placing.spaces cell.space))
    (record { file = placing.files; at = 0 })

-- whether the file with this number is one of the space
abbrev pub has_file : ℕ → Striped → Bool
has_file file space = nat_le space.first file && nat_lt file (space.first + space.count)

-- the first file of the space s
abbrev pub first_at : List Striped → ℕ → ℕ
first_at spaces s = unwrap_or (option_map (λ space. space.first) (slice_get spaces s)) 0

-- the space of a file, and its place in the list of the space's map
abbrev pub place_of : Placing → ℕ → Option (ℕ × ℕ)
place_of placing file = option_map (λ s. (s, file - first_at placing.spaces s))
    (position (has_file file) placing.spaces)
