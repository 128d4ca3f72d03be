-- The messages that have entered: each is served at its place, waits for its needs that have not ended, and is ready where it waits
-- for none and has not begun.
use Rattle.std.specs.Prelude.{◌≡◌, ◌≢◌, ℕ, ◌<◌, ◌≤◌, ◌⊎◌, ◌↔◌, true, false, List, [], ◌∷◌, ◌++◌, length, map}
use Rattle.std.specs.Prelude.{Contains, slice_index, IsPermutation}
use Rattle.std.specs.BinaryHeap.{heap_items}
use Rattle.std.specs.List.{range_with_len}
use Rattle.waff_model.specs.Numbers.{IsAmongFirst}
use Rattle.waff_model.specs.Tree.{Node}
use Rattle.waff_model.specs.Versions.{has_clients}
use Rattle.waff_model.specs.declared.message.Version.{Version}
use Rattle.waff_assign.specs.Held.{Held}
use Rattle.waff_order.specs.Joined.{HaveJoined, Joined}
use Rattle.waff_order.specs.Needs.{needs_of}
use Rattle.waff_waits.specs.Times.{AreEach, times}
use Rattle.waff_waits.specs.Waits.{AreWaits, HasFinished, IsFree, WaitsForNone, WhoWaits}
use Rattle.waff_line.specs.Lined.{served_at}
use Rattle.waff_line.specs.Machine.{Course, State, HasBegun, HasCome, HasEnded, IsIssued, issue_in}
use Rattle.waff_line.specs.declared.order.Order.{Order}
use Rattle.waff_line.specs.declared.waiting.Waiting.{Waiting}

-- the needs of the message at this place of the order of service, by number
abbrev pub needs_at : List ℕ → List (List ℕ) → ℕ → List ℕ
needs_at messages needs p = map (served_at messages) (needs_of needs p)

-- message m, which holds this, has joined the order as the last one, and has this place
pub record JoinsLast (old : Order) (m : ℕ) (held : Held) (new : Order) (place : ℕ) : Type 0 where
  pub messages : new.messages.items ≡ old.messages.items ++ m ∷ []
  pub last : place ≡ length new.messages.items
  pub list : List ℕ
  pub listed : new.joining.needs ≡ old.joining.needs ++ list ∷ []
  pub joined : (tree : List Node) (helds : List Held) → HaveJoined tree old.spans.now helds old.joining
      → HaveJoined tree old.spans.now (helds ++ held ∷ []) new.joining

-- the messages that are ready
abbrev pub ready_in : Waiting → List ℕ
ready_in waiting = map (λ r. r.0.1) (heap_items waiting.ready)

-- message m waits for none and is ready too, or it waits and those are ready that were
abbrev pub IsReadied : WhoWaits → ℕ → List ℕ → List ℕ → Type 0
IsReadied w m old new =
    (WaitsForNone w m × IsPermutation (m ∷ old) new) ⊎ ((WaitsForNone w m → ⊥) × (new ≡ old))

-- of those that are due none has come at this time
abbrev pub HaveNoneCome : Version → ℕ → List (ℕ × ℕ) → Type 0
HaveNoneCome version clock due = (r : ℕ × ℕ) → Contains due r → HasCome version r.0 clock → ⊥

-- a message that is due, at its issue
pub record IsDueAtIssue (course : Course) (s : State) (r : ℕ × ℕ) : Type 0 where
  pub number : IsAmongFirst course.work.count r.1
  pub issued : IsIssued course s r.1
  pub issue : issue_in course s r.1 ≡ r.0

-- a message whose issue has come
pub record IsThere (course : Course) (s : State) (i : ℕ) : Type 0 where
  pub number : IsAmongFirst course.work.count i
  pub issued : IsIssued course s i
  pub come : HasCome course.version (issue_in course s i) s.clock

-- of the messages that are issued these have entered, and these are due, each once
pub record AreDue (course : Course) (s : State) (entered : List ℕ) (due : List (ℕ × ℕ)) : Type 0 where
  pub known : (i : ℕ) → IsAmongFirst course.work.count i → IsIssued course s i
      → Contains entered i ⊎ Contains due (issue_in course s i, i)
  pub each : (r : ℕ × ℕ) → Contains due r → IsDueAtIssue course s r
  pub come : (i : ℕ) → Contains entered i → IsThere course s i
  pub once : (i : ℕ) → times i (entered ++ map (λ r. r.1) due) ≤ 1

-- those that have entered have a place each in the order of service: by issue all that are there have entered, by number each has the
-- place of its number
pub record ArePlaced (version : Version) (count : ℕ) (messages entered : List ℕ) : Type 0 where
  pub apart : (p q : ℕ) → p < q → q < length messages → slice_index messages p ≢ slice_index messages q
  pub there : (i : ℕ) → Contains entered i → Contains messages i
  pub by_issue : has_clients version ≡ true → (i : ℕ) → Contains messages i → Contains entered i
  pub by_number : has_clients version ≡ false → messages ≡ range_with_len 1 count

-- who waits for whom of those that have entered; of those that wait for none these have begun, and these are ready
pub record AreWaiting (course : Course) (s : State) (joined : Joined) (messages entered : List ℕ)
    (w : WhoWaits) (ready : List ℕ) : Type 0 where
  pub needs : List (List ℕ)
  pub begun : List ℕ
  pub count : length needs ≡ course.work.count
  pub waits : AreWaits entered needs w
  pub told : (p : ℕ) → IsAmongFirst (length messages) p → Contains entered (served_at messages p)
      → needs_of needs (served_at messages p) ≡ needs_at messages joined.needs p
  pub ended : (i : ℕ) → IsAmongFirst course.work.count i → HasFinished w i ↔ HasEnded s i
  pub began : (i : ℕ) → IsAmongFirst course.work.count i → HasBegun s i ↔ Contains begun i
  pub each : AreEach (IsFree entered w) (begun ++ ready)

-- what is kept of the messages that have entered
pub record AreEntered (course : Course) (s : State) (joined : Joined) (messages : List ℕ)
    (due : List (ℕ × ℕ)) (w : WhoWaits) (ready : List ℕ) : Type 0 where
  pub entered : List ℕ
  pub issued : AreDue course s entered due
  pub placed : ArePlaced course.version course.work.count messages entered
  pub waiting : AreWaiting course s joined messages entered w ready
