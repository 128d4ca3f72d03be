-- What holds of the core machine.
use Rattle.std.specs.Prelude.{◌≡◌, ◌↔◌, ◌≢◌, ◌⊎◌, ℕ, zero, suc, ◌+◌, ◌-◌, ◌≤◌, true, List, [], ◌∷◌}
use Rattle.std.specs.Prelude.{length, Some, take, All}
use Rattle.waff_model.specs.Layout.{IsCell, owner_of}
use Rattle.waff_model.specs.declared.cell.Cell.{Cell}
use Rattle.waff_assign.specs.Held.{ExcludeEachOther}
use Rattle.waff_assign.specs.Order.{held_of}
use Rattle.waff_order.specs.Needs.{needs_of}
use Rattle.waff_cells.specs.Meaning.{meaning}
use Rattle.waff_cells.specs.Serial.{SameParcel, ops_of, serial}
use Rattle.waff_core.specs.Job.{JobValue, IsIn, IsOwner}
use Rattle.waff_core.specs.Machine.{Core, Runs, Steps, IsClear, IsAway, opening, phase_of}
use Rattle.waff_core.specs.Refused.{FailsFirst}
use Rattle.waff_core.specs.Statuses.{HasStatus, ShowsStatus}
use Rattle.waff_core.specs.Settled.{IsLast, CellsAreSerial}
use Rattle.waff_core.specs.declared.actors.Event.{Event}
use Rattle.waff_core.specs.declared.actors.Event.TheVariants.{Draw, Begin, End}
use Rattle.waff_core.specs.declared.actors.Phase.TheVariants.{Drawn, Running}
use Rattle.waff_core.specs.declared.refusal.CoreError.{CoreError}
use Rattle.waff_core.specs.declared.actors.Status.{Status}

-- the machine with this many actors reaches the state: some events lead to it from the opening
abbrev pub Reaches : JobValue → ℕ → Core → Type 0
Reaches job seats s = (events : List Event) × Runs job (opening seats) events s

-- every message of the job is done
abbrev pub AreAllDone : JobValue → Core → Type 0
AreAllDone job s = (m : ℕ) → IsIn job m → s.done m ≡ true

-- events lead from a state to no more than one
abbrev pub RunsOnce : JobValue → Type 0
RunsOnce job =
    (s : Core) (events : List Event) (t u : Core)
    → Runs job s events t → Runs job s events u → t ≡ u

-- events have no more than one first fault
abbrev pub FailsOnce : JobValue → Type 0
FailsOnce job =
    (seats : ℕ) (events : List Event) (one other : CoreError)
    → FailsFirst job seats events one → FailsFirst job seats events other → one ≡ other

-- all events of a list are accepted, or the list has a first fault
abbrev pub RunsOrFails : JobValue → Type 0
RunsOrFails job =
    (seats : ℕ) (events : List Event)
    → ((s : Core) × Runs job (opening seats) events s)
    ⊎ ((error : CoreError) × FailsFirst job seats events error)

-- never both
abbrev pub NeverBoth : JobValue → Type 0
NeverBoth job =
    (seats : ℕ) (events : List Event) (s : Core) (error : CoreError)
    → Runs job (opening seats) events s → ¬ FailsFirst job seats events error

-- events that are accepted stay accepted when cut short
abbrev pub StaysAccepted : JobValue → Type 0
StaysAccepted job =
    (s : Core) (events : List Event) (t : Core) (n : ℕ)
    → Runs job s events t → (u : Core) × Runs job s (take n events) u

-- actor x draws, begins and ends this many messages, one after another
abbrev pub rounds : ℕ → ℕ → List Event
rounds x zero = []
rounds x (suc n) = Draw x ∷ Begin x ∷ End x ∷ rounds x n

-- any one actor can run the order to its end, and then all messages are done
abbrev pub OneActorEnds : JobValue → Type 0
OneActorEnds job =
    (seats x : ℕ) → 1 ≤ x → x ≤ seats
    → (s : Core) × Runs job (opening seats) (rounds x (length job.order)) s × AreAllDone job s

-- in a state that is reached all messages are done, or the machine accepts an event: a free actor
-- may draw, one may begin the message that it holds, or one may end the message that it runs
abbrev pub NeverStuck : JobValue → Type 0
NeverStuck job =
    (seats : ℕ) (s : Core) → 1 ≤ seats → Reaches job seats s
    → AreAllDone job s ⊎ ((event : Event) × (t : Core) × Steps job s event t)

-- the draws, the phases and what is done decide a state that is reached: its cells follow
abbrev pub CellsFollow : JobValue → Type 0
CellsFollow job =
    (seats : ℕ) (s t : Core) → Reaches job seats s → Reaches job seats t
    → s.drawn ≡ t.drawn → s.phases ≡ t.phases
    → ((m : ℕ) → IsIn job m → (s.done m ≡ true) ↔ (t.done m ≡ true)) → s ≡ t

-- the number of draws is at most that of the messages and of the actors
abbrev pub DrawsAreFew : JobValue → Type 0
DrawsAreFew job = (seats : ℕ) (s : Core) → Reaches job seats s → s.drawn ≤ length job.ops + seats

-- each message has one status: it waits, or one actor holds it, or one runs it, or it is done
abbrev pub EachHasOneStatus : JobValue → Type 0
EachHasOneStatus job =
    (seats : ℕ) (s : Core) → Reaches job seats s
    → (m : ℕ) → IsIn job m
    → (status : Status) × HasStatus job s m status
    × ((other : Status) → HasStatus job s m other → other ≡ status)

-- a message whose needs are done is clear: every earlier message that excludes it is done
abbrev pub NeedsAreEnough : JobValue → Type 0
NeedsAreEnough job =
    (seats : ℕ) (s : Core) → Reaches job seats s
    → (m : ℕ) → All (λ i. s.done i ≡ true) (needs_of job.needs m) → IsClear job s m

-- messages that run at once do not exclude each other
abbrev pub RunningDoNotExclude : JobValue → Type 0
RunningDoNotExclude job =
    (seats : ℕ) (s : Core) → Reaches job seats s
    → (x y m n : ℕ) → x ≢ y
    → phase_of s.phases x ≡ Some (Running m) → phase_of s.phases y ≡ Some (Running n)
    → ¬ ExcludeEachOther job.layout.tree (held_of job.assigned m) (held_of job.assigned n)

-- a parcel that is away is with one running message
abbrev pub AwayWithOne : JobValue → Type 0
AwayWithOne job =
    (seats : ℕ) (s : Core) → Reaches job seats s
    → (a : ℕ) (one other : IsAway job s a)
    → (one.actor ≡ other.actor) × (one.message ≡ other.message)

-- when a message may begin, the parcels of its footprint's owners are home
abbrev pub BeginsAtHome : JobValue → Type 0
BeginsAtHome job =
    (seats : ℕ) (s : Core) → Reaches job seats s
    → (x m : ℕ) → phase_of s.phases x ≡ Some (Drawn m) → IsClear job s m
    → (a : ℕ) → IsOwner job.layout.spaces (ops_of job.ops m) a → ¬ IsAway job s a

-- there is no more than one last message at or above an affinity
abbrev pub LastIsOne : JobValue → Type 0
LastIsOne job =
    (s : Core) (a one other : ℕ) → IsLast job s a one → IsLast job s a other → one ≡ other

-- in every state that is reached, also while messages run, the parcels are those of arrival order
abbrev pub AlwaysSerial : JobValue → Type 0
AlwaysSerial job = (seats : ℕ) (s : Core) → Reaches job seats s → CellsAreSerial job s

-- each cell has the value that arrival order gives it after the last message that is done whose
-- affinity is at or above the cell's owner
abbrev pub EachCellIsSerial : JobValue → Type 0
EachCellIsSerial job =
    (seats : ℕ) (s : Core) → Reaches job seats s
    → (cell : Cell) → IsCell job.layout.spaces cell
    → (last : ℕ) → IsLast job s (owner_of job.layout.spaces cell) last
    → s.cells cell ≡ serial job.ops last cell

-- where all messages are done the cells are those of arrival order
abbrev pub AllDoneIsSerial : JobValue → Type 0
AllDoneIsSerial job =
    (seats : ℕ) (s : Core) → Reaches job seats s → AreAllDone job s
    → (cell : Cell) → IsCell job.layout.spaces cell
    → s.cells cell ≡ serial job.ops (length job.ops) cell

-- actor x may begin message m, or runs it
abbrev pub MayRun : JobValue → Core → ℕ → ℕ → Type 0
MayRun job s x m =
    ((phase_of s.phases x ≡ Some (Drawn m)) × IsClear job s m)
    ⊎ (phase_of s.phases x ≡ Some (Running m))

-- from when a message may begin until its end, the parcels of its footprint's owners are those of
-- arrival order before it, and its meaning makes them those after it
abbrev pub BeginsSettled : JobValue → Type 0
BeginsSettled job =
    (seats : ℕ) (s : Core) → Reaches job seats s
    → (x m : ℕ) → MayRun job s x m
    → (a : ℕ) → IsOwner job.layout.spaces (ops_of job.ops m) a
    → SameParcel job.layout.spaces a s.cells (serial job.ops (m - 1))
    × SameParcel job.layout.spaces a (meaning (ops_of job.ops m) s.cells) (serial job.ops m)

-- the status that a state shows of a message is the one that it has
abbrev pub ShowsWhatItHas : JobValue → Type 0
ShowsWhatItHas job =
    (seats : ℕ) (s : Core) → Reaches job seats s
    → (m : ℕ) (status : Status) → ShowsStatus s m status ↔ HasStatus job s m status
