-- The greatest cost of one that reads a cell, told by readings: places in a row, each for so many ticks.
use Rattle.std.specs.Prelude.{◌≡◌, ℕ, ◌+◌, ◌^◌, ◌<◌, ◌≤◌, ◌&&◌, nat_le, nat_lt, List, [], ◌∷◌, ◌++◌, All, Contains, if◌then◌else◌, map}
use Rattle.waff_model.specs.declared.cell.Cell.{Cell}
use Rattle.waff_plan.specs.Work.{greatest}
use Rattle.waff_limits.specs.Edges.{place_of}
use Rattle.waff_limits.specs.declared.readings.Reading.{Reading}
use Rattle.waff_limits.specs.declared.readings.Readings.{Readings}

-- the cost of a reading, if the place is one of its
abbrev pub cost_at : ℕ → Reading → ℕ
cost_at place reading = if nat_le reading.first place && nat_le place reading.last then reading.cost else 0

-- the greatest cost at a place
abbrev pub peak_at : List Reading → ℕ → ℕ
peak_at readings place = greatest (map (cost_at place) readings)

-- all readings, with the last one
abbrev pub readings_of : Readings → List Reading
readings_of readings = readings.readings.items ++ readings.last ∷ []

-- the readings tell the greatest cost at each cell
pub record AreRead (readings : List Reading) (peak : Cell → ℕ) : Type 0 where
  pub told : (cell : Cell) → cell.index < 2 ^ 32 → peak_at readings (place_of cell) ≡ peak cell
  pub no_other : (cell : Cell) → 2 ^ 32 ≤ cell.index → peak cell ≡ 0

-- a cell is used for so many ticks, and up to a place for those of the peak there too
abbrev pub with_peak : (Cell → ℕ) → (ℕ → ℕ) → ℕ → Cell → ℕ
with_peak used peak end cell =
    used cell + (if nat_lt cell.index (2 ^ 32) && nat_lt (place_of cell) end then peak (place_of cell) else 0)

-- a cell is used for so many ticks more, if its place is one of these
abbrev pub with_places : (Cell → ℕ) → ℕ → ℕ → ℕ → Cell → ℕ
with_places used first last cost cell =
    used cell + (if nat_lt cell.index (2 ^ 32) && (nat_le first (place_of cell) && nat_le (place_of cell) last) then cost else 0)

-- of readings that have begun, each a cost and its last place, those that go on to a place have this greatest cost, 0 where none does
pub record IsPeakOf (going : List (ℕ × ℕ)) (place ticks : ℕ) : Type 0 where
  pub most : All (λ r. place ≤ r.1 → r.0 ≤ ticks) going
  pub some : 0 < ticks → (r : ℕ × ℕ) × Contains going r × (place ≤ r.1) × (r.0 ≡ ticks)

-- from a place on
abbrev pub ArePeaks : List (ℕ × ℕ) → (ℕ → ℕ) → ℕ → Type 0
ArePeaks going peak from = (place : ℕ) → from ≤ place → IsPeakOf going place (peak place)
