-- Which events the core machine refuses, and why.
use Rattle.std.specs.Prelude.{◌≡◌, ℕ, ◌+◌, ◌≤◌, false, List, Option, Some, None, slice_get, take}
use Rattle.waff_assign.specs.Order.{IsOrdered}
use Rattle.waff_core.specs.Job.{JobValue}
use Rattle.waff_core.specs.Machine.{Core, Runs, opening, phase_of}
use Rattle.waff_core.specs.declared.actors.Event.{Event}
use Rattle.waff_core.specs.declared.actors.Event.TheVariants.{Draw, Begin, End}
use Rattle.waff_core.specs.declared.actors.Phase.{Phase}
use Rattle.waff_core.specs.declared.actors.Phase.TheVariants.{Free, Drawn, Running, Ended}
use Rattle.waff_core.specs.declared.refusal.CoreError.{CoreError}
use Rattle.waff_core.specs.declared.refusal.CoreError.TheVariants.{Busy, Nothing, NotYet, Memory}

-- a draw by an actor that holds or runs a message
abbrev pub IsBusy : Event → Option Phase → Type 0
IsBusy (Draw x) (Some (Drawn m)) = Unit {0}
IsBusy (Draw x) (Some (Running m)) = Unit {0}
IsBusy _ _ = ⊥

-- an event of no such actor or of one that has ended, a begin by an actor that holds no message, or
-- an end by one that runs none
abbrev pub HasNothing : Event → Option Phase → Type 0
HasNothing _ None = Unit {0}
HasNothing _ (Some Ended) = Unit {0}
HasNothing (Begin x) (Some Free) = Unit {0}
HasNothing (Begin x) (Some (Running m)) = Unit {0}
HasNothing (End x) (Some Free) = Unit {0}
HasNothing (End x) (Some (Drawn m)) = Unit {0}
HasNothing _ _ = ⊥

-- the actor of an event
abbrev pub actor_of : Event → ℕ
actor_of (Draw x) = x
actor_of (Begin x) = x
actor_of (End x) = x

-- the least earlier message that excludes message m and is not done
pub record IsLeastUndone (job : JobValue) (s : Core) (m i : ℕ) : Type 0 where
  pub ordered : IsOrdered job.layout.tree job.assigned i m
  pub undone : s.done i ≡ false
  pub least : (other : ℕ) → IsOrdered job.layout.tree job.assigned other m → s.done other ≡ false
      → i ≤ other

-- a begin of a message before an earlier one that excludes it is done; i is the least of those
abbrev pub IsNotYet : JobValue → Core → Event → ℕ → Type 0
IsNotYet job s (Begin x) i =
    (m : ℕ) × (phase_of s.phases x ≡ Some (Drawn m)) × IsLeastUndone job s m i
IsNotYet job s _ i = ⊥

-- the machine does not allow the event, which stands at this place, and the error names why
abbrev pub IsRefusedEvent : JobValue → Core → ℕ → Event → CoreError → Type 0
IsRefusedEvent job s place event (Busy at) =
    (at ≡ place) × IsBusy event (phase_of s.phases (actor_of event))
IsRefusedEvent job s place event (Nothing at) =
    (at ≡ place) × HasNothing event (phase_of s.phases (actor_of event))
IsRefusedEvent job s place event (NotYet at i) = (at ≡ place) × IsNotYet job s event i
IsRefusedEvent job s place event Memory = ⊥

-- the first event that the machine does not allow, and why
pub record FailsFirst (job : JobValue) (seats : ℕ) (events : List Event) (error : CoreError)
    : Type 0 where
  pub before : ℕ
  pub state : Core
  pub runs : Runs job (opening seats) (take before events) state
  pub event : Event
  pub is : slice_get events before ≡ Some event
  pub refused : IsRefusedEvent job state (before + 1) event error
