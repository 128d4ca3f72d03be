-- The order in which messages are served: by a key, of equal keys by number. Before the third version
-- all have the same key, so that what comes first in the trace is served first; from the third on the key
-- is the tick of the issue.
use Rattle.std.specs.Prelude.{◌≡◌, ℕ, ◌<◌, ◌≤◌, ◌⊎◌, List}
use Rattle.waff_model.specs.Tree.{Node}
use Rattle.waff_model.specs.declared.message.Version.{Version}
use Rattle.waff_model.specs.declared.message.Version.TheVariants.{V1, V2, V3, V4}
use Rattle.waff_assign.specs.Order.{Relation}
use Rattle.waff_plan.specs.Work.{Work, IsAmongFirst, IsAwaited, issue_of}
use Rattle.waff_assign.specs.Held.{ExcludeEachOther, Held}
use Rattle.waff_assign.specs.Order.{held_of}

-- the key of a message in a plan with these starts
abbrev pub Key : Type 0
Key = (ℕ → ℕ) → ℕ → ℕ

-- message i has a lower key than message j, or the same and the lower number
abbrev pub ComesBefore : (ℕ → ℕ) → Relation
ComesBefore key i j = (key i < key j) ⊎ ((key i ≡ key j) × (i < j))

-- of this many messages, message i is before message j, and they exclude each other
pub record Precedes (count : ℕ) (before : Relation) (tree : List Node) (assigned : List Held) (i j : ℕ)
    : Type 0 where
  pub first : IsAmongFirst count i
  pub second : IsAmongFirst count j
  pub precedes : before i j
  pub excludes : ExcludeEachOther tree (held_of assigned i) (held_of assigned j)

-- the key by which the messages of a trace are served
abbrev pub key_of : Version → Work → Key
key_of V1 work start m = 0
key_of V2 work start m = 0
key_of V3 work start m = issue_of work start m
key_of V4 work start m = issue_of work start m

-- what a plan serves first by a key
abbrev pub Serves : List Node → List Held → Work → (ℕ → ℕ) → Relation
Serves tree assigned work key = Precedes work.count (ComesBefore key) tree assigned

-- a key by which messages can be served one after another: it is known of a message as soon as what
-- it awaits has a start, and a message comes before those that await it
pub record IsServiceKey (work : Work) (key : Key) : Type 0 where
  pub kept : (start other : ℕ → ℕ) (m : ℕ)
      → ((i : ℕ) → IsAwaited (work.awaits m) i → start i ≡ other i) → key start m ≡ key other m
  pub rises : (start : ℕ → ℕ) (i m : ℕ) → IsAwaited (work.awaits m) i
      → issue_of work start i ≤ start i → ComesBefore (key start) i m
