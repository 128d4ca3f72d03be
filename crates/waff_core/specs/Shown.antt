-- States of the machine as data: marks in place of sets, rows in place of maps.
use Rattle.std.specs.Prelude.{◌≡◌, ◌↔◌, ℕ, ◌+◌, true, false, Bool, List, length, Some, All}
use Rattle.std.specs.Prelude.{slice_index_or}
use Rattle.waff_model.specs.Messages.{sizes_of}
use Rattle.waff_order.specs.Needs.{needs_of}
use Rattle.waff_cells.specs.Grid.{HasSizes, cells_in}
use Rattle.waff_core.specs.Job.{JobValue, IsIn}
use Rattle.waff_core.specs.Machine.{Core, IsClear, IsAway, phase_of}
use Rattle.waff_core.specs.declared.actors.Phase.{Phase}
use Rattle.waff_core.specs.declared.actors.Phase.TheVariants.{Drawn, Running}
use Rattle.waff_core.specs.declared.steps.Machine.{Machine}

-- the messages that are marked as done; the place of a mark is the message's number
abbrev pub marked : List Bool → ℕ → Bool
marked marks = λ n. slice_index_or marks n false

-- the state of the machine that these parts show
abbrev pub shown : ℕ → List Phase → List Bool → List (List ℕ) → Core
shown drawn phases done rows =
    record { drawn = drawn; phases = phases; done = marked done; cells = cells_in rows }

-- the state of the machine
abbrev pub core_in : Machine → Core
core_in machine = shown machine.drawn machine.phases.items machine.done.items machine.state

-- the marks and the rows of a machine have the sizes of the job
pub record Fits (job : JobValue) (machine : Machine) : Type 0 where
  pub marks : length machine.done.items ≡ length job.ops + 1
  pub rows : HasSizes machine.state (sizes_of job.layout.spaces)

-- what the steps rest on: what actors hold or run are messages of the job, and a message whose
-- needs are done is clear
pub record IsSteady (job : JobValue) (s : Core) : Type 0 where
  pub held : (x m : ℕ) → phase_of s.phases x ≡ Some (Drawn m) → IsIn job m
  pub running : (x m : ℕ) → phase_of s.phases x ≡ Some (Running m) → IsIn job m
  pub enough : (m : ℕ) → All (λ i. s.done i ≡ true) (needs_of job.needs m) → IsClear job s m

-- a state of the machine as data: how many draws there were, the phases of the actors, the marks of
-- the messages that are done and of the affinities whose parcels are home, and a row for each space
pub record CoreValue : Type 0 where
  pub drawn : ℕ
  pub phases : List Phase
  pub done : List Bool
  pub home : List Bool
  pub cells : List (List ℕ)

-- the state of the machine
abbrev pub core_of : CoreValue → Core
core_of value = shown value.drawn value.phases value.done value.cells

-- the parcel of affinity a is marked as home
abbrev pub is_home : List Bool → ℕ → Bool
is_home home a = slice_index_or home a true

-- the marks are those of the parcels that are not away
abbrev pub AreHome : JobValue → Core → List Bool → Type 0
AreHome job s home = (a : ℕ) → (is_home home a ≡ true) ↔ ¬ IsAway job s a
