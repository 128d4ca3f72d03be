-- Messages that join one after another, and the needs of each among those that joined before it. The
-- number of a message is its place in the order of joining, from 1.
use Rattle.std.specs.Prelude.{◌≡◌, ℕ, ◌+◌, ◌*◌, ◌<◌, ◌≤◌, List, length, slice_index, sum_by}
use Rattle.waff_model.specs.Tree.{Node, IsTree}
use Rattle.waff_model.specs.Preorder.{AreNested, span_at}
use Rattle.waff_model.specs.Spans.{messages_of}
use Rattle.waff_model.specs.declared.preorder.Span.{Span}
use Rattle.waff_assign.specs.Held.{AreKnown, AreUnlocked, Held, UsesAlone, UsesShared, places_held}
use Rattle.waff_assign.specs.Order.{held_of}
use Rattle.waff_order.specs.Needs.{AreLists, AreNeeds, IsWithinDepth}
use Rattle.waff_order.specs.Open.{AreChosen, HoldsOver, IsLatestOver, IsOpen, Place, affinity}
use Rattle.waff_order.specs.Takers.{AreStates, AreTouched, LockState, opened_count, state_at}
use Rattle.waff_order.specs.declared.takers.Sharer.{Sharer}
use Rattle.waff_order.specs.declared.takers.Taken.{Taken}
use Rattle.std.specs.Prelude.{Contains, [], ◌∷◌}

-- the needs of the messages that have joined; the open ones, each at the place of its affinity, and at each place the
-- latest message at or above it, 0 where there is none; and of each lock who took it, in a table and a chain, with the
-- locks at which some message is open
pub record Joined : Type 0 where
  pub needs : List (List ℕ)
  pub opened : List ℕ
  pub latest : List ℕ
  pub locks : List Taken
  pub chain : List Sharer
  pub touched : List ℕ

-- the place of the affinity a
abbrev pub place_at : List Span → ℕ → ℕ
place_at spans a = (span_at spans a).first

-- each message that is open at its affinity stands in the table, at the affinity's place, and nothing else does
pub record AreHeld (tree : List Node) (spans : List Span) (assigned : List Held) (n : ℕ) (messages : List ℕ) : Type 0 where
  pub held : (p : ℕ) → 0 < slice_index messages p
      → (a : ℕ) × IsOpen tree assigned n (slice_index messages p) (affinity a) × (place_at spans a ≡ p)
  pub each : (i a : ℕ) → IsOpen tree assigned n i (affinity a) → slice_index messages (place_at spans a) ≡ i

-- the latest of the first n messages that holds a place at or above this one, 0 where there is none
pub record IsNoted (tree : List Node) (assigned : List Held) (n : ℕ) (at : Place) (above : ℕ) : Type 0 where
  pub some : 0 < above → IsLatestOver tree assigned n above at
  pub latest : (j : ℕ) → j ≤ n → 1 ≤ j → HoldsOver tree assigned j at → j ≤ above

-- at the place of each affinity the latest message at or above it is noted
abbrev pub AreLatest : List Node → List Span → List Held → ℕ → List ℕ → Type 0
AreLatest tree spans assigned n latest =
    (a : ℕ) → a < length tree → IsNoted tree assigned n (affinity a) (slice_index latest (place_at spans a))

-- the latest in the root
abbrev pub root_of : List Span → List ℕ → ℕ
root_of spans latest = slice_index latest (place_at spans 0)

-- numbers that fall
abbrev pub IsFalling : List ℕ → Type 0
IsFalling [] = Unit {0}
IsFalling (m ∷ rest) = ((j : ℕ) → Contains rest j → j < m) × IsFalling rest

-- of the first n messages who took the lock
pub record IsTaken (assigned : List Held) (n l : ℕ) (state : LockState) : Type 0 where
  pub alone : 0 < state.alone → (state.alone ≤ n) × UsesAlone (held_of assigned state.alone) l
  pub latest : (j : ℕ) → 1 ≤ j → j ≤ n → UsesAlone (held_of assigned j) l → j ≤ state.alone
  pub sharers : (i : ℕ) → Contains state.sharers i
      → (1 ≤ i) × (i ≤ n) × UsesShared (held_of assigned i) l × (state.alone < i)
  pub each : (i : ℕ) → 1 ≤ i → i ≤ n → UsesShared (held_of assigned i) l → state.alone < i → Contains state.sharers i
  pub falling : IsFalling state.sharers

-- messages that hold this have joined in this order, and their needs are known
pub record HaveJoined (tree : List Node) (spans : List Span) (assigned : List Held)
    (joined : Joined) : Type 0 where
  pub is_tree : IsTree tree
  pub nested : AreNested tree spans
  pub known : AreKnown tree assigned
  pub needs : AreNeeds tree assigned joined.needs
  pub chosen : AreChosen tree assigned joined.needs
  pub lists : AreLists joined.needs
  pub opened_length : length joined.opened ≡ length tree
  pub opened : AreHeld tree spans assigned (length assigned) joined.opened
  pub latest_length : length joined.latest ≡ length tree
  pub latest : AreLatest tree spans assigned (length assigned) joined.latest
  pub states : List LockState
  pub are_states : AreStates joined.locks joined.chain states
  pub taken : (l : ℕ) → IsTaken assigned (length assigned) l (state_at states l)
  pub touched : AreTouched (root_of spans joined.latest) states joined.touched
  pub twice : sum_by length joined.needs + length (messages_of joined.opened)
      + opened_count (root_of spans joined.latest) states ≤ 2 * places_held assigned
  pub flat : IsWithinDepth tree 0 → AreUnlocked assigned
      → sum_by length joined.needs + length (messages_of joined.opened)
      + opened_count (root_of spans joined.latest) states ≤ length assigned

-- some messages have joined
abbrev pub IsJoined : List Span → Joined → Type 0
IsJoined spans joined =
    (tree : List Node) × (assigned : List Held) × HaveJoined tree spans assigned joined
