-- Tables of the latest messages: by the spans of affinities in preorder, as the affinities at or below one stand at one
-- run of places, and by the locks that messages use.
use Rattle.std.specs.Prelude.{◌≡◌, ℕ, ◌<◌, ◌≤◌, ◌⊎◌, List, Option, Some, None}
use Rattle.std.specs.Prelude.{slice_index_or, option_map, Contains, IfSome, length}
use Rattle.waff_model.specs.Tree.{Node}
use Rattle.waff_model.specs.Numbers.{IsAmongFirst}
use Rattle.waff_model.specs.Preorder.{span_at, Spans}
use Rattle.waff_model.specs.declared.preorder.Span.{Span}
use Rattle.waff_assign.specs.Held.{AffinitiesExclude, Contend, ExcludeEachOther, Held, UsesAlone, UsesLock}
use Rattle.waff_assign.specs.Order.{affinity_of, held_of}
use Rattle.waff_plan.specs.Latest.{IsFound}
use Rattle.waff_plan.specs.declared.last.Placed.{Placed}
use Rattle.waff_plan.specs.declared.latest.Latest.{Latest}
use Rattle.waff_plan.specs.declared.lock_table.LockLatest.{LockLatest}
use Rattle.waff_plan.specs.declared.lock_table.LockTable.{LockTable}

-- a table by places: at each place the latest message whose affinity stands there, and the latest whose affinity is at
-- or above the one that does; and the latest of all that have an affinity
pub record PlaceTable : Type 0 where
  pub own : List (Option Latest)
  pub over : List (Option Latest)
  pub last : Option Placed

-- message i has an affinity of this span
abbrev pub IsPlaced : List Span → List Held → ℕ → Span → Type 0
IsPlaced spans assigned i span =
    (a : ℕ) × (affinity_of assigned i ≡ Some a) × (span_at spans a ≡ span)

-- message i stands at this place
abbrev pub StandsAt : List Span → List Held → ℕ → ℕ → Type 0
StandsAt spans assigned i p = (span : Span) × IsPlaced spans assigned i span × (span.first ≡ p)

-- the affinity of message i is at or above the one at this place
abbrev pub StandsOver : List Span → List Held → ℕ → ℕ → Type 0
StandsOver spans assigned i p =
    (span : Span) × IsPlaced spans assigned i span × (span.first ≤ p) × (p < span.end)

-- the affinity of message i is at or below the one of this span, or at or above it
abbrev pub Meets : List Span → List Held → Span → ℕ → Type 0
Meets spans assigned span i =
    (other : Span) × IsPlaced spans assigned i other × (Spans other span ⊎ Spans span other)

-- of the noted messages the latest that is so at each place
abbrev pub AreLatest : (ℕ → ℕ → Type 0) → (ℕ → ℕ) → List ℕ → List (Option Latest) → Type 0
AreLatest Is finish noted entries =
    (p : ℕ) → IsFound (λ i. Contains noted i × Is i p) finish (slice_index_or entries p None)

-- the latest of the noted messages that have an affinity, with its span
pub record IsLast (spans : List Span) (assigned : List Held)
    (finish : ℕ → ℕ) (noted : List ℕ) (last : Option Placed) : Type 0 where
  pub latest : IsFound (λ i. Contains noted i × ((span : Span) × IsPlaced spans assigned i span))
      finish (option_map (λ placed. placed.message) last)
  pub span :
      IfSome last (λ placed. IsPlaced spans assigned placed.message.number placed.span)

-- the table by places of the messages that are noted
pub record IsPlaceTable (spans : List Span) (assigned : List Held)
    (finish : ℕ → ℕ) (noted : List ℕ) (table : PlaceTable) : Type 0 where
  pub own : AreLatest (StandsAt spans assigned) finish noted table.own
  pub over : AreLatest (StandsOver spans assigned) finish noted table.over
  pub last : IsLast spans assigned finish noted table.last

-- what is kept of a lock
abbrev pub lock_at : List LockLatest → ℕ → LockLatest
lock_at locks lock = slice_index_or locks lock (record { alone = None; users = None })

-- the table by locks of the messages that are noted
pub record IsLockTable (assigned : List Held) (finish : ℕ → ℕ) (noted : List ℕ) (table : LockTable)
    : Type 0 where
  pub alone : (lock : ℕ) → IsFound (λ i. Contains noted i × UsesAlone (held_of assigned i) lock)
      finish (lock_at table.locks.items lock).alone
  pub users : (lock : ℕ) → IsFound (λ i. Contains noted i × UsesLock (held_of assigned i) lock)
      finish (lock_at table.locks.items lock).users
  pub some : IsFound (λ i. Contains noted i × ((lock : ℕ) × UsesLock (held_of assigned i) lock))
      finish table.some

-- a table of messages that hold this under a tree
pub record LatestTable : Type 0 where
  pub tree : List Node
  pub spans : List Span
  pub assigned : List Held
  pub places : PlaceTable
  pub locks : LockTable

-- the table of the messages that are noted
pub record IsTable (finish : ℕ → ℕ) (noted : List ℕ) (table : LatestTable) : Type 0 where
  pub numbers : (i : ℕ) → Contains noted i → IsAmongFirst (length table.assigned) i
  pub places : IsPlaceTable table.spans table.assigned finish noted table.places
  pub locks : IsLockTable table.assigned finish noted table.locks

-- of the noted messages the latest that meets an affinity of this span
abbrev pub IsLatestMeeting : List Span → List Held → (ℕ → ℕ) → List ℕ → Span → Option Latest → Type 0
IsLatestMeeting spans assigned finish noted span latest =
    IsFound (λ i. Contains noted i × Meets spans assigned span i) finish latest

-- of the noted messages the latest whose affinity excludes the one that is held
abbrev pub IsLatestByTree : List Node → List Held → (ℕ → ℕ) → List ℕ → Held → Option Latest → Type 0
IsLatestByTree tree assigned finish noted held latest =
    IsFound (λ i. Contains noted i × AffinitiesExclude tree (held_of assigned i) held) finish latest

-- of the noted messages the latest that uses a lock that is held, where one of both uses it alone
abbrev pub IsLatestByLocks : List Held → (ℕ → ℕ) → List ℕ → Held → Option Latest → Type 0
IsLatestByLocks assigned finish noted held latest =
    IsFound (λ i. Contains noted i × ((lock : ℕ) × Contend (held_of assigned i) held lock)) finish latest

-- of the noted messages the latest that message m excludes
abbrev pub IsLatestExcluding : List Node → List Held → (ℕ → ℕ) → List ℕ → ℕ → Option Latest → Type 0
IsLatestExcluding tree assigned finish noted m latest =
    IsFound (λ i. Contains noted i
    × ExcludeEachOther tree (held_of assigned i) (held_of assigned m)) finish latest
