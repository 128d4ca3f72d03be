-- Which operations of a message are one call on files.
use Rattle.std.specs.Prelude.{◌≡◌, ℕ, ◌+◌, ◌*◌, ◌/◌, ◌<◌, ◌≤◌, max, List, length, Some, slice_get}
use Rattle.waff_model.specs.declared.cell.Cell.{Cell}
use Rattle.waff_model.specs.declared.op.Op.{Op}
use Rattle.waff_model.specs.declared.op.Op.TheVariants.{Add, Copy, Read, Set, Swap}
use Rattle.waff_run.specs.Places.{Placing, spot_of}
use Rattle.waff_run.specs.declared.places.Spot.{Spot}

-- the cell that an operation names first
abbrev pub first_cell : Op → Cell
first_cell (Set cell value) = cell
first_cell (Add cell value) = cell
first_cell (Copy cell source) = cell
first_cell (Swap cell other) = cell
first_cell (Read cell) = cell

-- both are reads, or sets of one number
abbrev pub AreAlike : Op → Op → Type 0
AreAlike (Read cell) (Read other) = Unit {0}
AreAlike (Set cell value) (Set other more) = value ≡ more
AreAlike op other = ⊥

-- the place that is so many cells further in its file
abbrev pub further : Placing → ℕ → Spot → Spot
further placing k spot = record { file = spot.file; at = spot.at + k * placing.bytes }

-- the operation k behind the one at `from` goes with it: they are alike, and its cell lies k cells further in the file
pub record GoesWith (placing : Placing) (ops : List Op) (from k : ℕ) : Type 0 where
  pub one : Op
  pub other : Op
  pub first : slice_get ops from ≡ Some one
  pub here : slice_get ops (from + k) ≡ Some other
  pub alike : AreAlike one other
  pub behind : spot_of placing (first_cell other) ≡ further placing k (spot_of placing (first_cell one))

-- so many operations from `from` on are one call: each behind the first goes with it, and the next one does not
pub record AreOneCall (placing : Placing) (ops : List Op) (from count : ℕ) : Type 0 where
  pub some : 0 < count
  pub within : from + count ≤ length ops
  pub each : (k : ℕ) → 0 < k → k < count → GoesWith placing ops from k
  pub most : ¬ GoesWith placing ops from count

-- how many cells of so many bytes a part of a call has at most: those of 1,048,576 bytes, but one at least
abbrev pub part_cells : ℕ → ℕ
part_cells bytes = max (1048576 / max bytes 1) 1
