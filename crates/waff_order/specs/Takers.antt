-- Who took locks. Of each lock: the latest message that used it alone, and those since that share it, the latest
-- first. Of these the ones since the latest message in the root are open.
use Rattle.std.specs.Prelude.{◌≡◌, ℕ, zero, suc, ◌+◌, ◌-◌, ◌<◌, ◌≤◌, max, List, [], ◌∷◌, ◌++◌, length, replicate}
use Rattle.std.specs.Prelude.{Bool, Contains, flat_map, if◌then◌else◌, nat_le, slice_index_or, slice_set, sum_by}
use Rattle.waff_assign.specs.declared.held.LockUse.{LockUse}
use Rattle.waff_order.specs.Runs.{chosen}
use Rattle.waff_order.specs.declared.takers.Sharer.{Sharer}
use Rattle.waff_order.specs.declared.takers.Taken.{Taken}

-- who took a lock: the latest message that used it alone, 0 for none, and those since that share it, the latest first
pub record LockState : Type 0 where
  pub alone : ℕ
  pub sharers : List ℕ

-- no one took the lock
abbrev pub untaken : LockState
untaken = record { alone = 0; sharers = [] }

abbrev pub state_at : List LockState → ℕ → LockState
state_at states l = slice_index_or states l untaken

-- those that stand in a table and a chain
abbrev pub taken_at : List Taken → ℕ → Taken
taken_at locks l = slice_index_or locks l (record { alone = 0; sharers = 0 })

abbrev pub sharer_at : List Sharer → ℕ → Sharer
sharer_at chain at = slice_index_or chain (at - 1) (record { message = 0; next = 0 })

-- the messages of a chain from a place, by links to earlier places
abbrev pub IsChain : List Sharer → ℕ → List ℕ → Type 0
IsChain chain at [] = at ≡ 0
IsChain chain at (m ∷ rest) =
    (0 < at) × (at ≤ length chain) × ((sharer_at chain at).message ≡ m)
    × ((sharer_at chain at).next < at) × IsChain chain (sharer_at chain at).next rest

-- the tables say who took each lock
pub record AreStates (locks : List Taken) (chain : List Sharer) (states : List LockState) : Type 0 where
  pub alone : (l : ℕ) → (taken_at locks l).alone ≡ (state_at states l).alone
  pub sharers : (l : ℕ) → IsChain chain (taken_at locks l).sharers (state_at states l).sharers

-- they say it of some
abbrev pub AreKept : List Taken → List Sharer → Type 0
AreKept locks chain = (states : List LockState) × AreStates locks chain states

-- the messages since the root was last taken
abbrev pub since : ℕ → List ℕ → List ℕ
since root [] = []
since root (m ∷ rest) = if nat_le root m then m ∷ since root rest else []

abbrev pub alone_since : ℕ → ℕ → List ℕ
alone_since root zero = []
alone_since root (suc m) = if nat_le root (suc m) then suc m ∷ [] else []

-- the messages that are open at a lock, where this one is the latest in the root
abbrev pub opened_at : ℕ → LockState → List ℕ
opened_at root state = alone_since root state.alone ++ since root state.sharers

abbrev pub opened_count : ℕ → List LockState → ℕ
opened_count root states = sum_by (λ state. length (opened_at root state)) states

-- what a message that uses a lock needs there
abbrev pub needs_at : ℕ → Bool → LockState → List ℕ
needs_at root alone state = chosen (if alone then opened_at root state else []) (max state.alone root)

abbrev pub needs_by : ℕ → List LockState → List LockUse → List ℕ
needs_by root states uses = flat_map (λ u. needs_at root u.alone (state_at states u.lock)) uses

-- what is open at these locks
abbrev pub opened_by : ℕ → List LockState → List ℕ → List ℕ
opened_by root states locks = flat_map (λ l. opened_at root (state_at states l)) locks

-- message m uses a lock
abbrev pub noted : ℕ → Bool → LockState → LockState
noted m alone state =
    if alone then record { alone = m; sharers = [] } else record { alone = state.alone; sharers = m ∷ state.sharers }

abbrev pub note_use : ℕ → List LockState → LockUse → List LockState
note_use m states u =
    slice_set (states ++ replicate (u.lock + 1 - length states) untaken) u.lock (noted m u.alone (state_at states u.lock))

abbrev pub note_uses : ℕ → List LockState → List LockUse → List LockState
note_uses m states [] = states
note_uses m states (u ∷ uses) = note_uses m (note_use m states u) uses

-- each lock at which some message is open is listed
abbrev pub AreTouched : ℕ → List LockState → List ℕ → Type 0
AreTouched root states touched = (l i : ℕ) → Contains (opened_at root (state_at states l)) i → Contains touched l
