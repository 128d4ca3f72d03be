-- The core machine of a replay: actors draw messages of a job, begin them and end them. It is this
-- project's own. While a message runs, the parcels of its footprint's owners are with it; the cells
-- of the machine's state have the values that they had before.
use Rattle.std.specs.Prelude.{◌≡◌, ℕ, zero, suc, ◌+◌, ◌-◌, ◌==◌, ◌||◌, Bool, true, false, List, []}
use Rattle.std.specs.Prelude.{◌∷◌, Option, Some, None, replicate, slice_get, slice_set}
use Rattle.waff_assign.specs.Order.{IsOrdered}
use Rattle.waff_cells.specs.Meaning.{Cells, meaning}
use Rattle.waff_cells.specs.Serial.{ops_of, zeros}
use Rattle.waff_core.specs.Job.{JobValue, IsOwner}
use Rattle.waff_core.specs.declared.actors.Event.{Event}
use Rattle.waff_core.specs.declared.actors.Event.TheVariants.{Draw, Begin, End}
use Rattle.waff_core.specs.declared.actors.Phase.{Phase}
use Rattle.waff_core.specs.declared.actors.Phase.TheVariants.{Free, Drawn, Running, Ended}

-- a state of the machine: how many draws there were, the phases of actors 1, 2 and so on, which
-- messages are done, and the cells
pub record Core : Type 0 where
  pub drawn : ℕ
  pub phases : List Phase
  pub done : ℕ → Bool
  pub cells : Cells

-- the phase of actor x, where there is such an actor
abbrev pub phase_of : List Phase → ℕ → Option Phase
phase_of phases zero = None
phase_of phases (suc x) = slice_get phases x

-- the phases, with another one of actor x
abbrev pub with_phase : List Phase → ℕ → Phase → List Phase
with_phase phases x phase = slice_set phases (x - 1) phase

-- the state in which the machine opens: every actor is free, nothing is drawn or done
abbrev pub opening : ℕ → Core
opening seats =
    record { drawn = 0; phases = replicate seats Free; done = λ m. false; cells = zeros }

-- the phase of an actor that has drawn: it holds the message at that place, or has ended past the
-- end of the order
abbrev pub phase_drawn : Option ℕ → Phase
phase_drawn (Some m) = Drawn m
phase_drawn None = Ended

-- the state after a draw of actor x
abbrev pub drawn_by : JobValue → Core → ℕ → Core
drawn_by job s x = record s {
  drawn = s.drawn + 1;
  phases = with_phase s.phases x (phase_drawn (slice_get job.order s.drawn));
}

-- the state after actor x has begun message m
abbrev pub begun_by : Core → ℕ → ℕ → Core
begun_by s x m = record s { phases = with_phase s.phases x (Running m) }

-- the state after actor x has ended message m: the message's meaning is applied, and it is done
abbrev pub ended_by : JobValue → Core → ℕ → ℕ → Core
ended_by job s x m = record s {
  phases = with_phase s.phases x Free;
  done = λ n. n == m || s.done n;
  cells = meaning (ops_of job.ops m) s.cells;
}

-- every earlier message that excludes message m is done
abbrev pub IsClear : JobValue → Core → ℕ → Type 0
IsClear job s m = (i : ℕ) → IsOrdered job.layout.tree job.assigned i m → s.done i ≡ true

-- the event leads from one state to another: a free actor draws, one begins the message that it
-- holds when it is clear, one ends the message that it runs
abbrev pub Steps : JobValue → Core → Event → Core → Type 0
Steps job s (Draw x) t = (phase_of s.phases x ≡ Some Free) × (t ≡ drawn_by job s x)
Steps job s (Begin x) t =
    (m : ℕ) × (phase_of s.phases x ≡ Some (Drawn m)) × IsClear job s m × (t ≡ begun_by s x m)
Steps job s (End x) t =
    (m : ℕ) × (phase_of s.phases x ≡ Some (Running m)) × (t ≡ ended_by job s x m)

-- the events lead from one state to another
abbrev pub Runs : JobValue → Core → List Event → Core → Type 0
Runs job s [] t = s ≡ t
Runs job s (event ∷ events) t = (u : Core) × Steps job s event u × Runs job u events t

-- the parcel of affinity a is away: an actor runs a message of whose footprint a is an owner
pub record IsAway (job : JobValue) (s : Core) (a : ℕ) : Type 0 where
  pub actor : ℕ
  pub message : ℕ
  pub running : phase_of s.phases actor ≡ Some (Running message)
  pub owner : IsOwner job.layout.spaces (ops_of job.ops message) a
