-- What has become of a message in a state of the core machine.
use Rattle.std.specs.Prelude.{◌≡◌, ◌==◌, ℕ, ◌≤◌, if◌then◌else◌, true, false, Option, Some, None}
use Rattle.waff_core.specs.Job.{JobValue, StandsAt}
use Rattle.waff_core.specs.Machine.{Core, phase_of}
use Rattle.waff_core.specs.declared.actors.Phase.{Phase}
use Rattle.waff_core.specs.declared.actors.Phase.TheVariants.{Drawn, Running as Runs}
use Rattle.waff_core.specs.declared.actors.Status.{Status}
use Rattle.waff_core.specs.declared.actors.Status.TheVariants.{Waiting, Held, Running, Done}

-- the status of message m: no actor has drawn it, an actor holds it, an actor runs it, or it is
-- done
abbrev pub HasStatus : JobValue → Core → ℕ → Status → Type 0
HasStatus job s m Waiting = (place : ℕ) → StandsAt job.order place m → s.drawn ≤ place
HasStatus job s m (Held actor) = phase_of s.phases actor ≡ Some (Drawn m)
HasStatus job s m (Running actor) = phase_of s.phases actor ≡ Some (Runs m)
HasStatus job s m Done = s.done m ≡ true

-- the status of message m that the state shows by itself, with no look at the order: it waits where
-- it is not done and no actor holds or runs it
abbrev pub ShowsStatus : Core → ℕ → Status → Type 0
ShowsStatus s m Waiting =
    (s.done m ≡ false) × ((x : ℕ) → ¬ (phase_of s.phases x ≡ Some (Drawn m)))
    × ((x : ℕ) → ¬ (phase_of s.phases x ≡ Some (Runs m)))
ShowsStatus s m (Held actor) = phase_of s.phases actor ≡ Some (Drawn m)
ShowsStatus s m (Running actor) = phase_of s.phases actor ≡ Some (Runs m)
ShowsStatus s m Done = s.done m ≡ true

-- the status of message m by the phase of an actor, where the actor has the message
abbrev pub status_by : Phase → ℕ → ℕ → Option Status
status_by (Drawn n) actor m = if n == m then Some (Held actor) else None
status_by (Runs n) actor m = if n == m then Some (Running actor) else None
status_by _ actor m = None
