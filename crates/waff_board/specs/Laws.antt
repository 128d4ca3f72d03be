-- What holds between any two atomic steps of a board, whichever threads make them.
use Rattle.std.specs.Prelude.{◌≡◌, ◌≢◌, ◌⊎◌, ◌↔◌, ℕ, ◌+◌, ◌%◌, ◌^◌, ◌<◌, ◌≤◌, [], ◌∷◌, ◌++◌, Some}
use Rattle.std.specs.Prelude.{Bool, true, false, length, count_by, slice_get, slice_index, slice_set}
use Rattle.std.specs.Global.{Vec}
use mathlib.Core.Option.{some}
use lib.ListN.{get_elem?}
use Rattle.atomic_table.specs.Table.{State}
use Rattle.waff_assign.specs.Held.{ExcludeEachOther}
use Rattle.waff_assign.specs.Order.{held_of}
use Rattle.waff_core.specs.Job.{IsIn, StandsAt}
use Rattle.waff_core.specs.Machine.{Steps, opening}
use Rattle.waff_core.specs.declared.actors.Event.TheVariants.{Draw, Begin, End}
use Rattle.waff_core.specs.declared.actors.Phase.{Phase}
use Rattle.waff_core.specs.declared.actors.Phase.TheVariants.{Free, Drawn, Running}
use Rattle.waff_board.specs.Plays.{drawn_view, looked_view, begun_view, finished_view}
use Rattle.waff_board.specs.Plays.{made_view, next_view}
use Rattle.waff_board.specs.Rule.{Holds}
use Rattle.waff_board.specs.Seats.{HasSeen, StandsInOne}
use Rattle.waff_board.specs.declared.view.Setup.{Setup}
use Rattle.waff_board.specs.declared.view.View.{View}
use Rattle.waff_board.specs.declared.view.TheConstants.{RUNNING, DONE}

-- the words, the slots at home and the views between two steps
abbrev pub IsBetween : Setup → State (Vec ℕ) View → Type 0
IsBetween setup s = Holds (λ parcel. parcel.items) setup s

-- the view of a seat
abbrev pub Knows : State (Vec ℕ) View → ℕ → View → Type 0
Knows s seat v = get_elem? s.views seat ≡ some v

-- no two seats are one actor
abbrev pub ActorsDiffer : Setup → Type 0
ActorsDiffer setup =
    (s : State (Vec ℕ) View) → IsBetween setup s
    → (seat other : ℕ) (v w : View) → Knows s seat v → Knows s other w
    → v.actor ≡ w.actor → seat ≡ other

-- no number is drawn twice, and each is below the number of draws
abbrev pub NumbersDiffer : Setup → Type 0
NumbersDiffer setup =
    (s : State (Vec ℕ) View) → IsBetween setup s
    → (seat other : ℕ) (v w : View) → Knows s seat v → Knows s other w
    → (i j p : ℕ) → slice_get v.draws i ≡ Some p → slice_get w.draws j ≡ Some p
    → (seat ≡ other) × (i ≡ j) × (p < slice_index s.words 0)

-- each number below that of the draws was drawn by a seat
abbrev pub NumbersAreDrawn : Setup → Type 0
NumbersAreDrawn setup =
    (s : State (Vec ℕ) View) → IsBetween setup s
    → (p : ℕ) → p < slice_index s.words 0 → StandsInOne (λ v. v.draws) s.views p

-- no message is handed out twice
abbrev pub HandedOutOnce : Setup → Type 0
HandedOutOnce setup =
    (s : State (Vec ℕ) View) → IsBetween setup s
    → (seat other : ℕ) (v w : View) → Knows s seat v → Knows s other w
    → (i j p q m : ℕ) → slice_get v.draws i ≡ Some p → slice_get w.draws j ≡ Some q
    → StandsAt setup.job.order p m → StandsAt setup.job.order q m
    → (seat ≡ other) × (i ≡ j)

-- the view is that of a seat that holds or runs the message
abbrev pub IsAt : View → ℕ → Type 0
IsAt v m = (v.phase ≡ Drawn m) ⊎ (v.phase ≡ Running m)

-- no two seats hold or run one message
abbrev pub RunByOne : Setup → Type 0
RunByOne setup =
    (s : State (Vec ℕ) View) → IsBetween setup s
    → (seat other : ℕ) (v w : View) → Knows s seat v → Knows s other w
    → (m : ℕ) → IsAt v m → IsAt w m → seat ≡ other

-- messages that two seats run at once do not exclude each other
abbrev pub RunningExcludeNobody : Setup → Type 0
RunningExcludeNobody setup =
    (s : State (Vec ℕ) View) → IsBetween setup s
    → (seat other : ℕ) (v w : View) → Knows s seat v → Knows s other w → seat ≢ other
    → (m n : ℕ) → v.phase ≡ Running m → w.phase ≡ Running n
    → ¬ ExcludeEachOther setup.job.layout.tree (held_of setup.job.assigned m)
    (held_of setup.job.assigned n)

-- whether an actor in this phase runs a message
abbrev pub runs : Phase → Bool
runs (Running m) = true
runs _ = false

-- at most as many messages run at once as there are seats
abbrev pub FewRun : Setup → Type 0
FewRun setup =
    (s : State (Vec ℕ) View) → IsBetween setup s
    → count_by (λ v. runs v.phase) s.views ≤ setup.seats

-- no message is run twice: it stands once in the lists of what the seats have run
abbrev pub RunOnce : Setup → Type 0
RunOnce setup =
    (s : State (Vec ℕ) View) → IsBetween setup s
    → (seat other : ℕ) (v w : View) → Knows s seat v → Knows s other w
    → (i j m : ℕ) → slice_get v.ran i ≡ Some m → slice_get w.ran j ≡ Some m
    → (seat ≡ other) × (i ≡ j)

-- a message is done exactly where a seat has run it
abbrev pub DoneIsRun : Setup → Type 0
DoneIsRun setup =
    (s : State (Vec ℕ) View) → IsBetween setup s
    → (m : ℕ) → IsIn setup.job m
    → (slice_index s.words m ≡ DONE) ↔ StandsInOne (λ v. v.ran) s.views m

-- where no seat has drawn, the state is the one in which the machine opens: nothing is drawn or
-- done, and every cell is 0
abbrev pub OpensUntouched : Setup → Type 0
OpensUntouched setup =
    (s : State (Vec ℕ) View) (between : IsBetween setup s)
    → ((seat : ℕ) (v : View) → Knows s seat v → v.draws ≡ [])
    → between.core ≡ opening setup.seats

-- what a seat has seen is done
abbrev pub SeenIsDone : Setup → Type 0
SeenIsDone setup =
    (s : State (Vec ℕ) View) → IsBetween setup s
    → (seat : ℕ) (v : View) → Knows s seat v
    → (m : ℕ) → IsIn setup.job m → HasSeen v m → slice_index s.words m ≡ DONE

-- there are no more draws than messages and seats
abbrev pub DrawsAreFew : Setup → Type 0
DrawsAreFew setup =
    (s : State (Vec ℕ) View) → IsBetween setup s
    → slice_index s.words 0 ≤ length setup.job.ops + setup.seats

-- words, slots and views show one state of the core machine
abbrev pub ShowsOneState : Setup → Type 0
ShowsOneState setup =
    (s : State (Vec ℕ) View) (one other : IsBetween setup s) → one.core ≡ other.core

-- a step leads from s to t: it stores the word at this place, and the seat that makes it has the
-- view w then
pub record IsStep (s t : State (Vec ℕ) View) (place word seat : ℕ) (w : View) : Type 0 where
  pub words : t.words ≡ slice_set s.words place word
  pub views : t.views ≡ slice_set s.views seat w

-- a draw is one draw of the core machine
abbrev pub DrawIsOneEvent : Setup → Type 0
DrawIsOneEvent setup =
    (s t : State (Vec ℕ) View) (before : IsBetween setup s) (after : IsBetween setup t)
    → (seat p : ℕ) (v : View) → Knows s seat v → v.phase ≡ Free → slice_index s.words 0 ≡ p
    → IsStep s t 0 ((p + 1) % 2 ^ 64) seat (drawn_view v p)
    → Steps setup.job before.core (Draw v.actor) after.core

-- a begin is one begin of the core machine
abbrev pub BeginIsOneEvent : Setup → Type 0
BeginIsOneEvent setup =
    (s t : State (Vec ℕ) View) (before : IsBetween setup s) (after : IsBetween setup t)
    → (seat m : ℕ) (v : View) → Knows s seat v → v.phase ≡ Drawn m
    → IsStep s t m RUNNING seat (begun_view v m)
    → Steps setup.job before.core (Begin v.actor) after.core

-- a finish is one end of the core machine
abbrev pub FinishIsOneEvent : Setup → Type 0
FinishIsOneEvent setup =
    (s t : State (Vec ℕ) View) (before : IsBetween setup s) (after : IsBetween setup t)
    → (seat m : ℕ) (v : View) → Knows s seat v → v.phase ≡ Running m
    → IsStep s t m DONE seat (finished_view v m)
    → Steps setup.job before.core (End v.actor) after.core

-- a look leaves the state of the core machine
abbrev pub LookIsNoEvent : Setup → Type 0
LookIsNoEvent setup =
    (s t : State (Vec ℕ) View) (before : IsBetween setup s) (after : IsBetween setup t)
    → (seat n word : ℕ) (v : View) → Knows s seat v → slice_index s.words n ≡ word
    → IsStep s t n word seat (looked_view v n word) → after.core ≡ before.core

-- so does the making of a seat
abbrev pub MakingIsNoEvent : Setup → Type 0
MakingIsNoEvent setup =
    (s t : State (Vec ℕ) View) (before : IsBetween setup s) (after : IsBetween setup t)
    → (seat : ℕ) (v : View) → Knows s seat v → t.words ≡ s.words
    → t.views ≡ slice_set s.views seat (made_view v) ++ next_view v ∷ []
    → after.core ≡ before.core
