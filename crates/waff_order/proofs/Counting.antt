-- How many messages are open at locks, and how many needs that leaves.
use Rattle.std.proofs.Common.{◌≡◌, ℕ, zero, suc, ◌+◌, ◌-◌, ◌*◌, ◌<◌, ◌≤◌, inl, inr, List, [], ◌∷◌, ◌++◌, length, replicate, max, Contains, Bool, true, false, arith, refl, sym, ◌∙◌, ap, subst}
use Rattle.std.proofs.lemmas.Bool.{cases_lt}
use Rattle.std.proofs.lemmas.List.{length-append, length-replicate}
use Rattle.std.proofs.lemmas.List.Concat.{flat_map-cons}
use Rattle.std.proofs.lemmas.List.Elements.{Contains-append_cases, Contains-append_left, Contains-append_right}
use Rattle.std.proofs.lemmas.List.Folds.{sum_by-replicate}
use Rattle.std.proofs.lemmas.List.Sums.{sum_by-append, sum_by-cons, sum_by-set}
use Rattle.std.specs.Prelude.{flat_map}
use Rattle.waff_model.proofs.Members.{in_none, in_first, in_rest, in_cases}
use Rattle.waff_assign.specs.Held.{IsRising}
use Rattle.waff_assign.specs.declared.held.LockUse.{LockUse}
use Rattle.waff_order.specs.Runs.{chosen}
use Rattle.waff_order.specs.Takers.{LockState, alone_since, needs_at, needs_by, note_use, note_uses, noted, opened_at, opened_count, since, state_at, untaken}
use Rattle.waff_order.proofs.LockHolding.{rising_first, rising_rest}
use Rattle.waff_order.proofs.TakerLemmas.{alone_more, alone_none, get_or_pad, since_more, since_none, state_other}

-- one need at most is not taken
pub length-chosen : (taken : List ℕ) (above : ℕ) → length (chosen taken above) ≤ length taken + 1
length-chosen [] zero = omega arith
length-chosen [] (suc n) = omega arith
length-chosen (one ∷ rest) above = omega arith

-- what is in one of many lists is in all of them together
module _ {A B : Type 0} (f : A → List B) where
  pub in_flat : (xs : List A) (x : A) (y : B) → Contains xs x → Contains (f x) y → Contains (flat_map f xs) y
  in_flat [] x y has here = absurd (in_none x has)
  in_flat (z ∷ xs) x y has here =
      subst (λ ys. Contains ys y) (sym (flat_map-cons f z xs))
      (elim (in_cases z xs x has) [
        | inl same ↦ Contains-append_left (f z) (flat_map f xs) y (subst (λ x. Contains (f x) y) (sym same) here)
        | inr later ↦ Contains-append_right (f z) (flat_map f xs) y (in_flat xs x y later here)
      ])

  pub from_flat : (xs : List A) (y : B) → Contains (flat_map f xs) y → (x : A) × Contains xs x × Contains (f x) y
  from_flat [] y has = absurd (in_none y has)
  from_flat (z ∷ xs) y has = elim (Contains-append_cases (f z) (flat_map f xs) y (subst (λ ys. Contains ys y) (flat_map-cons f z xs) has)) [
    | inl here ↦ (z, in_first z xs, here)
    | inr later ↦ let there = from_flat xs y later in (there.0, in_rest z xs there.0 there.1, there.2)
  ]

length_alone : (root m : ℕ) → length (alone_since root m) ≤ 1
length_alone root zero = omega arith
length_alone root (suc m) = elim (cases_lt (suc m) root) [
  | inl early ↦ let is = ap (length {A = ℕ}) (alone_none root (suc m) (inr early)) in omega (arith, is)
  | inr late ↦ let is = ap (length {A = ℕ}) (alone_more root (suc m) (omega arith) late) in omega (arith, is)
]

length_since : (root m : ℕ) (sharers : List ℕ) → length (since root (m ∷ sharers)) ≤ length (since root sharers) + 1
length_since root m sharers = elim (cases_lt m root) [
  | inl early ↦ let is = ap (length {A = ℕ}) (since_none root m sharers early) in omega (arith, is)
  | inr late ↦ let is = ap (length {A = ℕ}) (since_more root m sharers late) in omega (arith, is)
]

abbrev pub opens : ℕ → LockState → ℕ
opens root state = length (opened_at root state)

-- a use alone leaves one open message at most, and one that is shared adds one at most
opens_alone : (root m : ℕ) → opens root (record { alone = m; sharers = [] }) ≤ 1
opens_alone root m = let few = length_alone root m in omega (arith, few, length-append (alone_since root m) [])

opens_shared : (root m : ℕ) (s : LockState) → opens root (record { alone = s.alone; sharers = m ∷ s.sharers }) ≤ opens root s + 1
opens_shared root m s =
    let few = length_since root m s.sharers in
    omega (arith, few, length-append (alone_since root s.alone) (since root (m ∷ s.sharers)), length-append (alone_since root s.alone) (since root s.sharers))

module _ (root m : ℕ) where
  noted_few : (b : Bool) (s : LockState) → opens root (noted m b s) ≤ opens root s + 1
  noted_few true s = let few = opens_alone root m in omega (arith, few)
  noted_few false s = opens_shared root m s

  -- a message lists as many at a lock as are open there and one more, or it shares the lock, and lists one
  needs_few : (b : Bool) (s : LockState) → length (needs_at root b s) + opens root (noted m b s) ≤ opens root s + 2
  needs_few true s =
      let few = opens_alone root m in
      let listed = length-chosen (opened_at root s) (max s.alone root) in
      omega (arith, few, listed)
  needs_few false s =
      let few = opens_shared root m s in
      let listed = length-chosen [] (max s.alone root) in
      omega (arith, few, listed)

  count_use : (states : List LockState) (u : LockUse) → opened_count root (note_use m states u) + opens root (state_at states u.lock)
      ≡ opened_count root states + opens root (noted m u.alone (state_at states u.lock))
  count_use states u =
      let k = u.lock + 1 - length states in
      let grown = states ++ replicate k untaken in
      let s = noted m u.alone (state_at states u.lock) in
      let room : u.lock < length grown = omega (arith, length-append states (replicate k untaken), length-replicate k untaken) in
      let changed = sum_by-set (opens root) grown u.lock s untaken room in
      let more = sum_by-append (opens root) states (replicate k untaken) in
      let none = sum_by-replicate (opens root) k untaken in
      let here = ap (opens root) (get_or_pad states k u.lock untaken) in
      omega (arith, changed, more, none, here)

  needs_other : (states : List LockState) (x : LockUse) (uses : List LockUse) → ((v : LockUse) → Contains uses v → x.lock < v.lock)
      → needs_by root (note_use m states x) uses ≡ needs_by root states uses
  needs_other states x [] later = refl
  needs_other states x (u ∷ uses) later =
      let f = λ (v : LockUse). needs_at root v.alone (state_at (note_use m states x) v.lock) in
      let g = λ (v : LockUse). needs_at root v.alone (state_at states v.lock) in
      let less : x.lock < u.lock = later u (in_first u uses) in
      flat_map-cons f u uses
      ∙ ap (λ s. needs_at root u.alone s ++ flat_map f uses) (state_other m states x u.lock (λ same. omega arith))
      ∙ ap (λ xs. needs_at root u.alone (state_at states u.lock) ++ xs) (needs_other states x uses (λ v has. later v (in_rest u uses v has)))
      ∙ sym (flat_map-cons g u uses)

  -- the needs of a message at its locks, and what is open there after it
  pub count_uses : (states : List LockState) (uses : List LockUse) → IsRising uses
      → length (needs_by root states uses) + opened_count root (note_uses m states uses) ≤ opened_count root states + 2 * length uses
  count_uses states [] rising = omega arith
  count_uses states (u ∷ uses) rising =
      let f = λ (v : LockUse). needs_at root v.alone (state_at states v.lock) in
      let rest = count_uses (note_use m states u) uses (rising_rest u uses rising) in
      let one = count_use states u in
      let few = needs_few u.alone (state_at states u.lock) in
      let same = ap (length {A = ℕ}) (needs_other states u uses (λ v has. rising_first u v uses rising has)) in
      let split = ap (length {A = ℕ}) (flat_map-cons f u uses) ∙ length-append (f u) (needs_by root states uses) in
      omega (arith, rest, one, few, same, split)

  pub count_noted : (states : List LockState) (uses : List LockUse) → opened_count root (note_uses m states uses) ≤ opened_count root states + length uses
  count_noted states [] = omega arith
  count_noted states (u ∷ uses) =
      let rest = count_noted (note_use m states u) uses in
      let one = count_use states u in
      let few = noted_few u.alone (state_at states u.lock) in
      omega (arith, rest, one, few)

-- where nothing is open at any lock
empty_length : (xs : List ℕ) → ((i : ℕ) → Contains xs i → ⊥) → length xs ≡ 0
empty_length [] none = refl
empty_length (x ∷ xs) none = absurd (none x (in_first x xs))

pub count_none : (root : ℕ) (states : List LockState) → ((l i : ℕ) → Contains (opened_at root (state_at states l)) i → ⊥) → opened_count root states ≡ 0
count_none root [] none = refl
count_none root (s ∷ states) none =
    let first = empty_length (opened_at root s) (none 0) in
    let rest = count_none root states (λ l i has. none (suc l) i has) in
    omega (arith, first, rest, sum_by-cons (opens root) s states)

-- all that is open at locks
pub opened_all : (root l i : ℕ) (states : List LockState) → Contains (opened_at root (state_at states l)) i → Contains (flat_map (opened_at root) states) i
opened_all root l i [] has = absurd (in_none i has)
opened_all root zero i (s ∷ states) has = in_flat (opened_at root) (s ∷ states) s i (in_first s states) has
opened_all root (suc l) i (s ∷ states) has =
    subst (λ ys. Contains ys i) (sym (flat_map-cons (opened_at root) s states))
    (Contains-append_right (opened_at root s) (flat_map (opened_at root) states) i (opened_all root l i states has))

pub all_opened : (root i : ℕ) (states : List LockState) → Contains (flat_map (opened_at root) states) i
    → (l : ℕ) × Contains (opened_at root (state_at states l)) i
all_opened root i [] has = absurd (in_none i has)
all_opened root i (s ∷ states) has =
    elim (Contains-append_cases (opened_at root s) (flat_map (opened_at root) states) i (subst (λ ys. Contains ys i) (flat_map-cons (opened_at root) s states) has)) [
      | inl here ↦ (0, here)
      | inr later ↦ let there = all_opened root i states later in (suc there.0, there.1)
    ]
