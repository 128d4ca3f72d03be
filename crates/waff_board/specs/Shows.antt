-- What the words and the slots of a board show of a state of the core machine. Word 0 counts the
-- draws, and each message has a status word. Each affinity has a slot, in which its parcel lies
-- while it is home.
use Rattle.std.specs.Prelude.{◌≡◌, ℕ, ◌+◌, ◌<◌, ◌≤◌, ◌↔◌, true, List, Some, length, slice_index}
use mathlib.Core.Option.{Option, some, none}
use lib.ListN.{get_elem?}
use Rattle.waff_core.specs.Job.{JobValue, IsIn}
use Rattle.waff_core.specs.Machine.{Core, IsAway, phase_of}
use Rattle.waff_core.specs.declared.actors.Phase.TheVariants.{Running}
use Rattle.waff_cells.specs.Parcel.{IsParcel}
use Rattle.waff_board.specs.declared.view.TheConstants.{RUNNING, DONE}

-- an actor runs message n
pub record IsRunning (core : Core) (n : ℕ) : Type 0 where
  pub actor : ℕ
  pub running : phase_of core.phases actor ≡ Some (Running n)

-- the status word of message n: 2 where it is done, 1 where an actor runs it, else 0
pub record IsStatus (core : Core) (n word : ℕ) : Type 0 where
  pub done : (word ≡ DONE) ↔ (core.done n ≡ true)
  pub running : (word ≡ RUNNING) ↔ IsRunning core n
  pub known : word ≤ DONE

-- the words show the state
pub record Words (job : JobValue) (core : Core) (words : List ℕ) : Type 0 where
  pub count : length words ≡ length job.ops + 1
  pub draws : slice_index words 0 ≡ core.drawn
  pub statuses : (n : ℕ) → IsIn job n → IsStatus core n (slice_index words n)

-- the slots show the state: a slot is home exactly where the parcel is not away, and then it holds
-- the parcel
pub record Slots {S : Type 0} (items : S → List ℕ) (job : JobValue) (core : Core)
    (homes : List (Option S)) : Type 0 where
  pub count : length homes ≡ length job.layout.tree
  pub home : (a : ℕ) → a < length job.layout.tree → ¬ IsAway job core a
      → (y : S) × (get_elem? homes a ≡ some (some y))
      × IsParcel job.layout.spaces a core.cells (items y)
  pub away : (a : ℕ) → IsAway job core a → get_elem? homes a ≡ some none
