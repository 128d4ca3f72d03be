-- Chains of those that share a lock, and who took each lock after one message more.
use Rattle.std.proofs.Common.{◌≡◌, ◌≢◌, ℕ, zero, suc, ◌+◌, ◌-◌, ◌<◌, ◌≤◌, ◌⊎◌, inl, inr, Bool, true, false, List, [], ◌∷◌, ◌++◌, length, get_or, set, replicate, leb, Contains, append_assoc, arith, refl, sym, ◌∙◌, ap, subst}
use Rattle.std.proofs.lemmas.Bool.{cases_eq, cond-true, cond-false, le-leb, lt-leb}
use Rattle.std.proofs.lemmas.List.{get_or-set_same, get_or-set_other, get_or_append_left, get_or_push, append-nil, length-append, length_push, length-replicate}
use Rattle.std.proofs.lemmas.List.Elements.{Contains-append_left, Contains-append_right}
use Rattle.waff_model.proofs.Members.{in_first}
use Rattle.waff_assign.specs.declared.held.LockUse.{LockUse}
use Rattle.waff_order.specs.Takers.{AreStates, AreTouched, IsChain, LockState, alone_since, note_use, note_uses, noted, opened_at, sharer_at, since, state_at, taken_at, untaken}
use Rattle.waff_order.specs.declared.takers.Sharer.{Sharer}
use Rattle.waff_order.specs.declared.takers.Taken.{Taken}

pub chain_within : (chain : List Sharer) (at : ℕ) (sharers : List ℕ) → IsChain chain at sharers → at ≤ length chain
chain_within chain at [] h = omega (arith, h)
chain_within chain at (m ∷ rest) h = h.1

-- a chain stays where others are appended
pub chain_kept : (chain more : List Sharer) (at : ℕ) (sharers : List ℕ) → IsChain chain at sharers → IsChain (chain ++ more) at sharers
chain_kept chain more at [] h = h
chain_kept chain more at (m ∷ rest) h =
    let none : Sharer = record { message = 0; next = 0 } in
    let same : sharer_at (chain ++ more) at ≡ sharer_at chain at = get_or_append_left chain more none (at - 1) (omega (arith, h.0, h.1)) in (
      h.0,
      omega (arith, h.1, length-append chain more),
      subst (λ (s : Sharer). s.message ≡ m) (sym same) h.2,
      subst (λ (s : Sharer). s.next < at) (sym same) h.3,
      subst (λ (s : Sharer). IsChain (chain ++ more) s.next rest) (sym same) (chain_kept chain more (sharer_at chain at).next rest h.4),
    )

pub chain_push : (chain : List Sharer) (m next at : ℕ) (sharers : List ℕ) → at ≡ length chain + 1 → IsChain chain next sharers
    → IsChain (chain ++ record { message = m; next = next } ∷ []) at (m ∷ sharers)
chain_push chain m next at sharers is h =
    let last : Sharer = record { message = m; next = next } in
    let none : Sharer = record { message = 0; next = 0 } in
    let same : sharer_at (chain ++ last ∷ []) at ≡ last = get_or_push chain last none (at - 1) (omega arith) in
    let low : next ≤ length chain = chain_within chain next sharers h in
    let long : length (chain ++ last ∷ []) ≡ length chain + 1 = length_push chain last in (
      omega arith,
      omega arith,
      ap (λ (s : Sharer). s.message) same,
      subst (λ (s : Sharer). s.next < at) (sym same) (omega arith),
      subst (λ (s : Sharer). IsChain (chain ++ last ∷ []) s.next sharers) (sym same) (chain_kept chain (last ∷ []) next sharers h),
    )

-- what is open: by the numbers
pub since_more : (root m : ℕ) (rest : List ℕ) → root ≤ m → since root (m ∷ rest) ≡ m ∷ since root rest
since_more root m rest late = cond-true (leb root m) (m ∷ since root rest) [] (le-leb root m late)

pub since_none : (root m : ℕ) (rest : List ℕ) → m < root → since root (m ∷ rest) ≡ []
since_none root m rest early = cond-false (leb root m) (m ∷ since root rest) [] (lt-leb root m early)

pub alone_more : (root m : ℕ) → 0 < m → root ≤ m → alone_since root m ≡ m ∷ []
alone_more root zero some late = absurd (omega arith)
alone_more root (suc m) some late = cond-true (leb root (suc m)) (suc m ∷ []) [] (le-leb root (suc m) late)

pub alone_none : (root m : ℕ) → (m ≡ 0) ⊎ (m < root) → alone_since root m ≡ []
alone_none root zero either = refl
alone_none root (suc m) (inl none) = absurd (omega arith)
alone_none root (suc m) (inr early) = cond-false (leb root (suc m)) (suc m ∷ []) [] (lt-leb root (suc m) early)

pub opened_alone : (root m : ℕ) (sharers : List ℕ) → 0 < m → root ≤ m → Contains (opened_at root (record { alone = m; sharers = sharers })) m
opened_alone root m sharers some late =
    Contains-append_left (alone_since root m) (since root sharers) m
    (subst (λ xs. Contains xs m) (sym (alone_more root m some late)) (in_first m []))

-- the first of a chain is open where it came since the root was taken
pub opened_first : (chain : List Sharer) (root alone at : ℕ) (sharers : List ℕ) → IsChain chain at sharers → 0 < at
    → root ≤ (sharer_at chain at).message
    → (i : ℕ) × Contains (opened_at root (record { alone = alone; sharers = sharers })) i
opened_first chain root alone at [] h some late = absurd (omega (arith, h))
opened_first chain root alone at (m ∷ rest) h some late =
    let last : root ≤ m = subst (λ x. root ≤ x) h.2 late in (
      m,
      Contains-append_right (alone_since root alone) (since root (m ∷ rest)) m
          (subst (λ xs. Contains xs m) (sym (since_more root m rest last)) (in_first m (since root rest))),
    )

-- a list with more of what stands past its end
pub get_or_pad : {A : Type 0} (xs : List A) (k i : ℕ) (d : A) → get_or (xs ++ replicate k d) i d ≡ get_or xs i d
get_or_pad [] zero i d = refl
get_or_pad [] (suc k) zero d = refl
get_or_pad [] (suc k) (suc i) d = get_or_pad [] k i d
get_or_pad (x ∷ xs) k zero d = refl
get_or_pad (x ∷ xs) k (suc i) d = get_or_pad xs k i d

-- who took a lock that is used, and the others
module _ (m : ℕ) (states : List LockState) (u : LockUse) where
  abbrev grown : List LockState
  grown = states ++ replicate (u.lock + 1 - length states) untaken

  grown_length : u.lock < length grown
  grown_length = omega (arith, length-append states (replicate (u.lock + 1 - length states) untaken), length-replicate (u.lock + 1 - length states) untaken)

  pub state_used : state_at (note_use m states u) u.lock ≡ noted m u.alone (state_at states u.lock)
  state_used = get_or-set_same grown u.lock (noted m u.alone (state_at states u.lock)) untaken grown_length

  pub state_other : (l : ℕ) → l ≢ u.lock → state_at (note_use m states u) l ≡ state_at states l
  state_other l other =
      get_or-set_other grown u.lock l (noted m u.alone (state_at states u.lock)) untaken other
      ∙ get_or_pad states (u.lock + 1 - length states) l untaken

-- what is open at locks that are touched
pub touched_more : (root m : ℕ) (states : List LockState) (u : LockUse) (old new : List ℕ)
    → ((l : ℕ) → Contains old l → Contains new l) → Contains new u.lock
    → AreTouched root states old → AreTouched root (note_use m states u) new
touched_more root m states u old new kept here touched l i has = elim (cases_eq l u.lock) [
  | inl same ↦ subst (λ x. Contains new x) (sym same) here
  | inr other ↦ kept l (touched l i (subst (λ s. Contains (opened_at root s) i) (state_other m states u l other) has))
]

pub states_more : (m : ℕ) (locks new : List Taken) (chain longer : List Sharer) (states : List LockState) (u : LockUse)
    → ((l : ℕ) → l ≢ u.lock → taken_at new l ≡ taken_at locks l)
    → ((at : ℕ) (sharers : List ℕ) → IsChain chain at sharers → IsChain longer at sharers)
    → (taken_at new u.lock).alone ≡ (noted m u.alone (state_at states u.lock)).alone
    → IsChain longer (taken_at new u.lock).sharers (noted m u.alone (state_at states u.lock)).sharers
    → AreStates locks chain states → AreStates new longer (note_use m states u)
states_more m locks new chain longer states u others kept alone sharers h = record {
  alone = λ l. elim (cases_eq l u.lock) [
    | inl same ↦ rw (same, state_used m states u) alone
    | inr other ↦ ap (λ (t : Taken). t.alone) (others l other) ∙ h.alone l ∙ ap (λ (s : LockState). s.alone) (sym (state_other m states u l other))
  ];
  sharers = λ l. elim (cases_eq l u.lock) [
    | inl same ↦
        subst (λ x. IsChain longer (taken_at new x).sharers (state_at (note_use m states u) x).sharers) (sym same)
        (subst (λ (s : LockState). IsChain longer (taken_at new u.lock).sharers s.sharers) (sym (state_used m states u)) sharers)
    | inr other ↦
        subst (λ (t : Taken). IsChain longer t.sharers (state_at (note_use m states u) l).sharers) (sym (others l other))
        (subst (λ (s : LockState). IsChain longer (taken_at locks l).sharers s.sharers) (sym (state_other m states u l other))
        (kept (taken_at locks l).sharers (state_at states l).sharers (h.sharers l)))
  ];
}

-- one use more
pub note_uses-push : (m : ℕ) (states : List LockState) (uses : List LockUse) (u : LockUse)
    → note_uses m states (uses ++ u ∷ []) ≡ note_use m (note_uses m states uses) u
note_uses-push m states [] u = refl
note_uses-push m states (x ∷ uses) u = note_uses-push m (note_use m states x) uses u

-- the table with what one lock's entry became
pub states_set : (m : ℕ) (locks more : List Taken) (chain longer : List Sharer) (states : List LockState) (u : LockUse) (next : Taken)
    → ((l : ℕ) → taken_at more l ≡ taken_at locks l) → u.lock < length more
    → ((at : ℕ) (sharers : List ℕ) → IsChain chain at sharers → IsChain longer at sharers)
    → next.alone ≡ (noted m u.alone (state_at states u.lock)).alone
    → IsChain longer next.sharers (noted m u.alone (state_at states u.lock)).sharers
    → AreStates locks chain states → AreStates (set more u.lock next) longer (note_use m states u)
states_set m locks more chain longer states u next same room kept alone sharers h =
    let none : Taken = record { alone = 0; sharers = 0 } in
    let here : taken_at (set more u.lock next) u.lock ≡ next = get_or-set_same more u.lock next none room in
    states_more m locks (set more u.lock next) chain longer states u
    (λ l other. get_or-set_other more u.lock l next none other ∙ same l) kept
    (ap (λ (t : Taken). t.alone) here ∙ alone)
    (subst (λ (t : Taken). IsChain longer t.sharers (noted m u.alone (state_at states u.lock)).sharers) (sym here) sharers) h

pub noted_alone : (m : ℕ) (alone : Bool) (state : LockState) → alone ≡ true → noted m alone state ≡ record { alone = m; sharers = [] }
noted_alone m alone state is = cond-true alone (record { alone = m; sharers = [] }) (record { alone = state.alone; sharers = m ∷ state.sharers }) is

pub noted_shared : (m : ℕ) (alone : Bool) (state : LockState) → alone ≡ false
    → noted m alone state ≡ record { alone = state.alone; sharers = m ∷ state.sharers }
noted_shared m alone state is = cond-false alone (record { alone = m; sharers = [] }) (record { alone = state.alone; sharers = m ∷ state.sharers }) is

-- a message joins a lock: alone, or before those that share it
pub states_alone : (m : ℕ) (locks more : List Taken) (chain : List Sharer) (states : List LockState) (u : LockUse)
    → ((l : ℕ) → taken_at more l ≡ taken_at locks l) → u.lock < length more → u.alone ≡ true
    → AreStates locks chain states → AreStates (set more u.lock (record { alone = m; sharers = 0 })) chain (note_use m states u)
states_alone m locks more chain states u same room is h =
    let next : LockState = noted m u.alone (state_at states u.lock) in
    let it : next ≡ record { alone = m; sharers = [] } = noted_alone m u.alone (state_at states u.lock) is in
    states_set m locks more chain chain states u (record { alone = m; sharers = 0 }) same room (λ at sharers k. k)
    (sym (ap (λ (s : LockState). s.alone) it))
    (subst (λ (s : LockState). IsChain chain 0 s.sharers) (sym it) refl) h

pub states_shared : (m at : ℕ) (locks more : List Taken) (chain longer : List Sharer) (states : List LockState) (u : LockUse) (taken : Taken)
    → ((l : ℕ) → taken_at more l ≡ taken_at locks l) → u.lock < length more → u.alone ≡ false → taken ≡ taken_at more u.lock
    → ((place : ℕ) (sharers : List ℕ) → IsChain chain place sharers → IsChain longer place sharers)
    → ((sharers : List ℕ) → IsChain chain taken.sharers sharers → IsChain longer at (m ∷ sharers))
    → AreStates locks chain states
    → AreStates (set more u.lock (record { alone = taken.alone; sharers = at })) longer (note_use m states u)
states_shared m at locks more chain longer states u taken same room is here kept linked h =
    let old : LockState = state_at states u.lock in
    let there : taken ≡ taken_at locks u.lock = here ∙ same u.lock in
    let next : LockState = noted m u.alone old in
    let it : next ≡ record { alone = old.alone; sharers = m ∷ old.sharers } = noted_shared m u.alone old is in
    states_set m locks more chain longer states u (record { alone = taken.alone; sharers = at }) same room kept
    (ap (λ (t : Taken). t.alone) there ∙ h.alone u.lock ∙ sym (ap (λ (s : LockState). s.alone) it))
    (subst (λ (s : LockState). IsChain longer at s.sharers) (sym it)
    (linked old.sharers (subst (λ (t : Taken). IsChain chain t.sharers old.sharers) (sym there) (h.sharers u.lock)))) h

-- a walk along a chain
pub walk_on : (chain : List Sharer) (root at : ℕ) (before all rest : List ℕ) (s : Sharer) → s ≡ sharer_at chain at → 0 < at → root ≤ s.message
    → IsChain chain at rest → before ++ since root rest ≡ all
    → (left : List ℕ) × IsChain chain s.next left × ((before ++ s.message ∷ []) ++ since root left ≡ all)
walk_on chain root at before all [] s is some late h same = absurd (omega (arith, h))
walk_on chain root at before all (m ∷ rest) s is some late h same =
    let message : s.message ≡ m = ap (λ (x : Sharer). x.message) is ∙ h.2 in (
      rest,
      subst (λ (x : Sharer). IsChain chain x.next rest) (sym is) h.4,
      append_assoc before (s.message ∷ []) (since root rest)
          ∙ ap (λ x. before ++ x ∷ since root rest) message
          ∙ ap (λ xs. before ++ xs) (sym (since_more root m rest (subst (λ x. root ≤ x) message late)))
          ∙ same,
    )

pub walk_ends : (chain : List Sharer) (root at : ℕ) (before all rest : List ℕ) → at ≡ 0 → IsChain chain at rest → before ++ since root rest ≡ all → before ≡ all
walk_ends chain root at before all [] none h same = sym (append-nil before) ∙ same
walk_ends chain root at before all (m ∷ rest) none h same = absurd (omega (arith, h.0))

pub walk_breaks : (chain : List Sharer) (root at : ℕ) (before all rest : List ℕ) (s : Sharer) → s ≡ sharer_at chain at → s.message < root
    → IsChain chain at rest → before ++ since root rest ≡ all → before ≡ all
walk_breaks chain root at before all [] s is early h same = sym (append-nil before) ∙ same
walk_breaks chain root at before all (m ∷ rest) s is early h same =
    let message : s.message ≡ m = ap (λ (x : Sharer). x.message) is ∙ h.2 in
    sym (append-nil before) ∙ ap (λ xs. before ++ xs) (sym (since_none root m rest (subst (λ x. x < root) message early))) ∙ same

pub walk_within : (chain : List Sharer) (at : ℕ) (rest : List ℕ) → 0 < at → IsChain chain at rest → at - 1 < length chain
walk_within chain at rest some h = omega (arith, chain_within chain at rest h)

pub walk_down : (chain : List Sharer) (at : ℕ) (rest : List ℕ) (s : Sharer) → s ≡ sharer_at chain at → 0 < at → IsChain chain at rest → s.next < at
walk_down chain at [] s is some h = absurd (omega (arith, h))
walk_down chain at (m ∷ rest) s is some h = subst (λ (x : Sharer). x.next < at) (sym is) h.3
