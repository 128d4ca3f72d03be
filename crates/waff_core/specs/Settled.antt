-- What the cells of the core machine are: each parcel by itself is that of the state of arrival
-- order after the last message that is done and could touch it.
use Rattle.std.specs.Prelude.{◌≡◌, ℕ, ◌<◌, ◌≤◌, true, length}
use Rattle.waff_cells.specs.Serial.{SameParcel, serial}
use Rattle.waff_core.specs.Job.{JobValue, RunsAbove}
use Rattle.waff_core.specs.Machine.{Core}

-- message i is done, and its affinity is at or above a
pub record IsDoneAbove (job : JobValue) (s : Core) (a i : ℕ) : Type 0 where
  pub from : 1 ≤ i
  pub to : i ≤ length job.assigned
  pub done : s.done i ≡ true
  pub above : RunsAbove job i a

-- the greatest message that is done whose affinity is at or above a, 0 where there is none
pub record IsLast (job : JobValue) (s : Core) (a last : ℕ) : Type 0 where
  pub is : 0 < last → IsDoneAbove job s a last
  pub greatest : (i : ℕ) → IsDoneAbove job s a i → i ≤ last

-- each parcel is that of the state of arrival order after the last message at or above its affinity
abbrev pub CellsAreSerial : JobValue → Core → Type 0
CellsAreSerial job s =
    (a : ℕ) → (last : ℕ) × IsLast job s a last
    × SameParcel job.layout.spaces a s.cells (serial job.ops last)
