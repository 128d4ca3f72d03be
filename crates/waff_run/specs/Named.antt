-- The cells that a trace names, as they lie in files.
use Rattle.std.specs.Prelude.{◌≡◌, ◌⊎◌, ◌↔◌, ℕ, ◌+◌, ◌<◌, ◌≤◌, List, Contains, length, map, slice_index, flat_map}
use Rattle.std.specs.Ordering.{nat_cmp, ordering_then}
use Rattle.std.specs.declared.cmp.Ordering.{Ordering}
use Rattle.std.specs.List.Sorted.{IsStrictlySortedBy}
use Rattle.waff_model.specs.Cells.{cells_of}
use Rattle.waff_model.specs.declared.cell.Cell.{Cell}
use Rattle.waff_model.specs.declared.message.Message.{Message}
use Rattle.waff_run.specs.Places.{Placing, spot_of}
use Rattle.waff_run.specs.declared.places.Spot.{Spot}

-- the cells that messages name, in order
abbrev pub cells_named : List Message → List Cell
cells_named messages = flat_map (λ message. cells_of message.ops) messages

-- the byte behind a cell
abbrev pub end_of : Placing → Cell → ℕ
end_of placing cell = (spot_of placing cell).at + placing.bytes

-- one of these cells lies in the file and ends at this byte
pub record HasEnd (placing : Placing) (cells : List Cell) (file end : ℕ) : Type 0 where
  pub cell : Cell
  pub named : Contains cells cell
  pub here : (spot_of placing cell).file ≡ file
  pub ends : end_of placing cell ≡ end

-- the least byte by which these cells end in the file: each that lies there ends by it, and one ends there, or it is 0
pub record IsEnd (placing : Placing) (cells : List Cell) (file end : ℕ) : Type 0 where
  pub enough : (cell : Cell) → Contains cells cell → (spot_of placing cell).file ≡ file
      → end_of placing cell ≤ end
  pub least : (end ≡ 0) ⊎ HasEnd placing cells file end

-- for each file the least byte by which these cells end in it
pub record AreEnds (placing : Placing) (cells : List Cell) (ends : List ℕ) : Type 0 where
  pub count : length ends ≡ placing.files
  pub each : (file : ℕ) → file < length ends → IsEnd placing cells file (slice_index ends file)

-- the order of places: by file, then byte
abbrev pub spot_cmp : Spot → Spot → Ordering
spot_cmp one other = ordering_then (nat_cmp one.file other.file) (nat_cmp one.at other.at)

-- the places of these cells, each once, in order
pub record ListsSpots (placing : Placing) (cells : List Cell) (spots : List Spot) : Type 0 where
  pub each : (spot : Spot) → Contains spots spot ↔ Contains (map (spot_of placing) cells) spot
  pub rising : IsStrictlySortedBy spot_cmp spots
