-- The uses of locks by operations: each lock once, alone where one of the uses is.
use Rattle.std.proofs.Common.{◌≡◌, ◌⊎◌, ℕ, zero, suc, ◌+◌, ◌<◌, ◌≤◌, inl, inr, List, [], ◌∷◌, ◌++◌, length, get_or, Bool, true, false, All, Some, slice_get, Contains, arith, refl, sym, ◌∙◌, ap, subst}
use Rattle.std.specs.Prelude.{◌&&◌, not, nat_le}
use Rattle.std.specs.List.{AllPairs, flat_map}
use Rattle.std.specs.List.Sorted.{IsPermutation, IsSorted, IsStrictlySortedBy}
use Rattle.std.specs.Ordering.{bool_cmp, is_lt, nat_cmp, ordering_then}
use Rattle.std.specs.Cmp.{IsTotalOrder, bool_cmp_total}
use Rattle.std.specs.declared.cmp.Ordering.{Ordering}
use Rattle.std.proofs.lemmas.Bool.{cases_Bool, cases_eq, leb-true, leb-false}
use Rattle.std.proofs.lemmas.Bool.Decides.{nat_tests}
use Rattle.std.proofs.lemmas.Cmp.{nat_cmp_total, on_total, then_total}
use Rattle.std.proofs.lemmas.List.Elements.{All-contains, Contains-append_cases, Contains-append_left, Contains-append_right, Contains-get_or}
use Rattle.std.proofs.lemmas.List.Sorted.{Contains-permutation, IsPermutation-sym, ranks_by, sorted_far}
use Rattle.std.proofs.lemmas.Option.{same_Some, slice_get_within, get_or_from_slice_get}
use Rattle.waff_model.specs.Cells.{cells_of, cells_of_op, cells_written, cells_written_by}
use Rattle.waff_model.specs.Layout.{Hierarchy, Space, IsLocked, are_locked, locking_of}
use Rattle.waff_model.specs.declared.cell.Cell.{Cell}
use Rattle.waff_model.specs.declared.locking.Locking.{Locking}
use Rattle.waff_model.specs.declared.locking.Locking.TheVariants.{Unlocked, Exclusive, Shared}
use Rattle.waff_model.specs.declared.op.Op.{Op}
use Rattle.waff_model.specs.declared.op.Op.TheVariants.{Set, Add, Copy, Swap, Read}
use Rattle.waff_assign.specs.Footprint.{cell_cmp}
use Rattle.waff_assign.specs.Held.{IsRising}
use Rattle.waff_assign.specs.Lowest.{IsUseOf, ListsUses}
use Rattle.waff_assign.specs.Uses.{are_shared, cells_only_read_by, is_locked, locked_cells, number_in, seen_at, seen_by, seen_in, uses_from}
use Rattle.waff_assign.specs.declared.held.LockUse.{LockUse}
use Rattle.waff_assign.specs.declared.uses.Seen.{Seen}
use Rattle.waff_assign.proofs.Elements.{filter_has, first_in, flat_map_has, in_cons, in_filter, in_flat_map, in_one, later_in, none_in_nil}
use Rattle.waff_assign.proofs.Numbering.{locked_true, number_is, numbered}

-- the cells that an operation names are those that it writes and those that it only reads
cells_parted : (op : Op) → cells_of_op op ≡ cells_written_by op ++ cells_only_read_by op
cells_parted (Set cell value) = refl
cells_parted (Add cell value) = refl
cells_parted (Copy cell source) = refl
cells_parted (Swap cell other) = refl
cells_parted (Read cell) = refl

exclusive_by : (locking : Locking) → are_locked locking ≡ true → are_shared locking ≡ false → locking ≡ Exclusive
exclusive_by Unlocked locked shared = absurd (cc)
exclusive_by Exclusive locked shared = refl
exclusive_by Shared locked shared = absurd (cc)

module _ (spaces : List Space) (locks : List Cell) where
  -- the use of a lock
  abbrev seen_as : Bool → Cell → Seen
  seen_as writes cell = record { lock = number_in locks cell; shared = not writes && are_shared (locking_of spaces cell) }

  seen_from : (writes : Bool) (cell : Cell) (s : Seen) → Contains (seen_at spaces locks writes cell) s
      → (is_locked spaces cell ≡ true) × (s ≡ seen_as writes cell)
  seen_from writes cell s has = elim (cases_Bool (is_locked spaces cell)) [
    | inl locked ↦ (locked, sym (in_one (seen_as writes cell) s (rw locked at has)))
    | inr free ↦ absurd (none_in_nil s (rw free at has))
  ]

  seen_has : (writes : Bool) (cell : Cell) → is_locked spaces cell ≡ true → Contains (seen_at spaces locks writes cell) (seen_as writes cell)
  seen_has writes cell locked = rw locked (first_in (seen_as writes cell) [])

  module _ (ops : List Op) where
    -- each use is of the lock of a cell that the operations name
    pub record IsFrom (s : Seen) : Type 0 where
      pub cell : Cell
      pub locked : is_locked spaces cell ≡ true
      pub named : Contains (cells_of ops) cell
      pub lock : s.lock ≡ number_in locks cell
      pub alone : s.shared ≡ false → (locking_of spaces cell ≡ Exclusive) ⊎ Contains (cells_written ops) cell

    pub is_from : (s : Seen) → Contains (seen_in spaces locks ops) s → IsFrom s
    is_from s has =
        let (op, among, there) = in_flat_map (seen_by spaces locks) ops s has in
        let written = cells_written_by op in
        let read = cells_only_read_by op in
        elim (Contains-append_cases (flat_map (seen_at spaces locks true) written) (flat_map (seen_at spaces locks false) read) s there) [
          | inl writes ↦
              let (cell, names, here) = in_flat_map (seen_at spaces locks true) written s writes in
              let is = seen_from true cell s here in
              let in_op : Contains (cells_of_op op) cell = subst (λ cells. Contains cells cell) (sym (cells_parted op)) (Contains-append_left written read cell names) in
              record {
                cell = cell;
                locked = is.0;
                named = flat_map_has cells_of_op ops op cell among in_op;
                lock = ap (λ (x : Seen). x.lock) is.1;
                alone = λ alone. inr (flat_map_has cells_written_by ops op cell among names);
              }
          | inr reads ↦
              let (cell, names, here) = in_flat_map (seen_at spaces locks false) read s reads in
              let is = seen_from false cell s here in
              let in_op : Contains (cells_of_op op) cell = subst (λ cells. Contains cells cell) (sym (cells_parted op)) (Contains-append_right written read cell names) in
              record {
                cell = cell;
                locked = is.0;
                named = flat_map_has cells_of_op ops op cell among in_op;
                lock = ap (λ (x : Seen). x.lock) is.1;
                alone = λ alone. inl (exclusive_by (locking_of spaces cell) is.0 (sym (ap (λ (x : Seen). x.shared) is.1) ∙ alone));
              }
        ]

    -- and each such lock is used, alone where they write the cell
    pub seen_alone : (cell : Cell) → is_locked spaces cell ≡ true → Contains (cells_written ops) cell
        → (s : Seen) × Contains (seen_in spaces locks ops) s × (s.lock ≡ number_in locks cell) × (s.shared ≡ false)
    seen_alone cell locked writes =
        let (op, among, here) = in_flat_map cells_written_by ops cell writes in
        let written = cells_written_by op in
        let read = cells_only_read_by op in
        let s = seen_as true cell in
        let there = flat_map_has (seen_at spaces locks true) written cell s here (seen_has true cell locked) in
        let all = flat_map_has (seen_by spaces locks) ops op s among
        (Contains-append_left (flat_map (seen_at spaces locks true) written) (flat_map (seen_at spaces locks false) read) s there) in
        (s, all, refl, refl)

    pub seen_each : (cell : Cell) → is_locked spaces cell ≡ true → Contains (cells_of ops) cell
        → (s : Seen) × Contains (seen_in spaces locks ops) s × (s.lock ≡ number_in locks cell)
        × (locking_of spaces cell ≡ Exclusive → s.shared ≡ false)
    seen_each cell locked named =
        let (op, among, here) = in_flat_map cells_of_op ops cell named in
        let written = cells_written_by op in
        let read = cells_only_read_by op in
        elim (Contains-append_cases written read cell (subst (λ cells. Contains cells cell) (cells_parted op) here)) [
          | inl writes ↦
              let s = seen_as true cell in
              let there = flat_map_has (seen_at spaces locks true) written cell s writes (seen_has true cell locked) in
              let all = flat_map_has (seen_by spaces locks) ops op s among
              (Contains-append_left (flat_map (seen_at spaces locks true) written) (flat_map (seen_at spaces locks false) read) s there) in
              (s, all, refl, λ exclusive. refl)
          | inr reads ↦
              let s = seen_as false cell in
              let there = flat_map_has (seen_at spaces locks false) read cell s reads (seen_has false cell locked) in
              let all = flat_map_has (seen_by spaces locks) ops op s among
              (Contains-append_right (flat_map (seen_at spaces locks true) written) (flat_map (seen_at spaces locks false) read) s there) in
              (s, all, refl, λ exclusive. ap are_shared exclusive)
        ]

-- what is listed for operations is so for each of them
pub listed_op : (spaces : List Space) (locks : List Cell) (ops : List Op) (op : Op) → Contains ops op
    → All (Contains locks) (locked_cells spaces (cells_of ops)) → All (Contains locks) (locked_cells spaces (cells_of_op op))
listed_op spaces locks ops op among listed k d within =
    let cells = locked_cells spaces (cells_of_op op) in
    let named = in_filter (is_locked spaces) (cells_of_op op) (get_or cells k d) (Contains-get_or cells k d within) in
    All-contains (Contains locks) (locked_cells spaces (cells_of ops)) (get_or cells k d) listed
    (filter_has (is_locked spaces) (cells_of ops) (get_or cells k d) (flat_map_has cells_of_op ops op (get_or cells k d) among named.0) named.1)

-- uses in the order of their locks, those alone first
abbrev pub IsBefore : Seen → Seen → Type 0
IsBefore s t = (s.lock ≤ t.lock) × (s.lock ≡ t.lock → t.shared ≡ false → s.shared ≡ false)

abbrev pub seen_cmp : Seen → Seen → Ordering
seen_cmp s t = ordering_then (nat_cmp s.lock t.lock) (bool_cmp s.shared t.shared)

seen_cmp_total : IsTotalOrder seen_cmp
seen_cmp_total = then_total (on_total (λ (s : Seen). s.lock) nat_cmp_total) (on_total (λ (s : Seen). s.shared) bool_cmp_total)

before_by : (a b : ℕ) (x y : Bool) → is_lt (ordering_then (nat_cmp b a) (bool_cmp y x)) ≡ false → (a ≤ b) × (a ≡ b → y ≡ false → x ≡ false)
before_by a b false y not_less = (grind (arith, nat_tests), λ same shared. refl)
before_by a b true false not_less = (grind (arith, nat_tests), λ same shared. grind (arith, nat_tests))
before_by a b true true not_less = (grind (arith, nat_tests), λ same shared. absurd (cc))

pub before_all : (xs : List Seen) → IsSorted seen_cmp xs → AllPairs IsBefore xs
before_all xs sorted i j d before within =
    let s = get_or xs i d in
    let t = get_or xs j d in
    before_by s.lock t.lock s.shared t.shared
    (sorted_far (λ x y. is_lt (seen_cmp x y)) (ranks_by seen_cmp_total (λ (x : Seen). x)) xs sorted i j d (omega arith) within)

-- the first use of each lock
abbrev use_of : Seen → LockUse
use_of s = record { lock = s.lock; alone = not s.shared }

later : (s : Seen) (xs : List Seen) → AllPairs IsBefore (s ∷ xs) → AllPairs IsBefore xs
later s xs all i j d before within = all (suc i) (suc j) d (omega arith) (omega arith)

first_before : (s : Seen) (xs : List Seen) → AllPairs IsBefore (s ∷ xs) → (t : Seen) → Contains xs t → IsBefore s t
first_before s xs all t (k, within, is) = subst (λ x. IsBefore s x) is (all 0 (suc k) t (omega arith) (omega arith))

pub from_uses : (next : ℕ) (xs : List Seen) (u : LockUse) → Contains (uses_from next xs) u
    → (next ≤ u.lock) × ((s : Seen) × Contains xs s × (u ≡ use_of s))
from_uses next [] u has = absurd (none_in_nil u has)
from_uses next (s ∷ xs) u has = elim (cases_Bool (nat_le next s.lock)) [
  | inl from ↦ elim (in_cons (use_of s) (uses_from (s.lock + 1) xs) u (rw from at has)) [
    | inl here ↦
        let low : next ≤ s.lock = leb-true next s.lock from in
        (subst (λ (v : LockUse). next ≤ v.lock) here low, (s, first_in s xs, sym here))
    | inr more ↦
        let (past, (t, among, is)) = from_uses (s.lock + 1) xs u more in
        let low : next ≤ s.lock = leb-true next s.lock from in
        (omega arith, (t, later_in s xs t among, is))
  ]
  | inr below ↦
      let (past, (t, among, is)) = from_uses next xs u (rw below at has) in
      (past, (t, later_in s xs t among, is))
]

pub has_use : (next : ℕ) (xs : List Seen) → AllPairs IsBefore xs → (t : Seen) → Contains xs t → next ≤ t.lock
    → (u : LockUse) × Contains (uses_from next xs) u × (u.lock ≡ t.lock)
has_use next [] all t has from = absurd (none_in_nil t has)
has_use next (s ∷ xs) all t has from = elim (cases_Bool (nat_le next s.lock)) [
  | inl this ↦ elim (in_cons s xs t has) [
    | inl here ↦ (use_of s, rw this (first_in (use_of s) (uses_from (s.lock + 1) xs)), ap (λ (x : Seen). x.lock) here)
    | inr more ↦ elim (cases_eq s.lock t.lock) [
      | inl same ↦ (use_of s, rw this (first_in (use_of s) (uses_from (s.lock + 1) xs)), same)
      | inr other ↦
          let low = (first_before s xs all t more).0 in
          let (u, among, is) = has_use (s.lock + 1) xs (later s xs all) t more (omega arith) in
          (u, rw this (later_in (use_of s) (uses_from (s.lock + 1) xs) u among), is)
    ]
  ]
  | inr below ↦ elim (in_cons s xs t has) [
    | inl here ↦
        let low : s.lock < next = leb-false next s.lock below in
        let same : s.lock ≡ t.lock = ap (λ (x : Seen). x.lock) here in
        absurd (omega arith)
    | inr more ↦
        let (u, among, is) = has_use next xs (later s xs all) t more from in
        (u, rw below among, is)
  ]
]

pub first_alone : (next : ℕ) (xs : List Seen) → AllPairs IsBefore xs → (u : LockUse) → Contains (uses_from next xs) u
    → (t : Seen) → Contains xs t → t.lock ≡ u.lock → t.shared ≡ false → u.alone ≡ true
first_alone next [] all u has t among same alone = absurd (none_in_nil u has)
first_alone next (s ∷ xs) all u has t among same alone = elim (cases_Bool (nat_le next s.lock)) [
  | inl this ↦ elim (in_cons (use_of s) (uses_from (s.lock + 1) xs) u (rw this at has)) [
    | inl here ↦
        let lock : s.lock ≡ u.lock = ap (λ (v : LockUse). v.lock) here in
        let free : s.shared ≡ false = elim (in_cons s xs t among) [
          | inl first ↦ ap (λ (x : Seen). x.shared) first ∙ alone
          | inr more ↦ (first_before s xs all t more).1 (lock ∙ sym same) alone
        ] in
        sym (ap (λ (v : LockUse). v.alone) here) ∙ ap not free
    | inr more ↦
        let past = (from_uses (s.lock + 1) xs u more).0 in
        elim (in_cons s xs t among) [
          | inl first ↦
              let lock : s.lock ≡ t.lock = ap (λ (x : Seen). x.lock) first in
              absurd (omega arith)
          | inr others ↦ first_alone (s.lock + 1) xs (later s xs all) u more t others same alone
        ]
  ]
  | inr below ↦
      let kept = rw below at has in
      let past = (from_uses next xs u kept).0 in
      let low : s.lock < next = leb-false next s.lock below in
      elim (in_cons s xs t among) [
        | inl first ↦
            let lock : s.lock ≡ t.lock = ap (λ (x : Seen). x.lock) first in
            absurd (omega arith)
        | inr others ↦ first_alone next xs (later s xs all) u kept t others same alone
      ]
]

contains_from : (us : List LockUse) (k : ℕ) (u : LockUse) → slice_get us k ≡ Some u → Contains us u
contains_from us k u is = (k, slice_get_within us k u is, get_or_from_slice_get us k u u is)

rising_cons : (u : LockUse) (us : List LockUse) → ((v : LockUse) → Contains us v → u.lock < v.lock) → IsRising us → IsRising (u ∷ us)
rising_cons u us above rising zero zero v w before is_v is_w = absurd (omega arith)
rising_cons u us above rising zero (suc q) v w before is_v is_w =
    let same : u ≡ v = same_Some u v is_v in
    subst (λ (x : LockUse). x.lock < w.lock) same (above w (contains_from us q w is_w))
rising_cons u us above rising (suc p) zero v w before is_v is_w = absurd (omega arith)
rising_cons u us above rising (suc p) (suc q) v w before is_v is_w = rising p q v w (omega arith) is_v is_w

pub uses_rise : (next : ℕ) (xs : List Seen) → IsRising (uses_from next xs)
uses_rise next [] = λ p q u v before is_u is_v. absurd (cc)
uses_rise next (s ∷ xs) = elim (cases_Bool (nat_le next s.lock)) [
  | inl this ↦
      rw this
      (rising_cons (use_of s) (uses_from (s.lock + 1) xs)
      (λ v has. let past = (from_uses (s.lock + 1) xs v has).0 in omega arith)
      (uses_rise (s.lock + 1) xs))
  | inr below ↦ rw below (uses_rise next xs)
]

same_bool : (x y : Bool) → (x ≡ true → y ≡ true) → (y ≡ true → x ≡ true) → x ≡ y
same_bool true y to from = sym (to refl)
same_bool false true to from = from refl
same_bool false false to from = refl

abbrev mk_use : ℕ → Bool → LockUse
mk_use lock alone = record { lock = lock; alone = alone }

same_use : (u v : LockUse) → u.lock ≡ v.lock → u.alone ≡ v.alone → u ≡ v
same_use u v lock alone = ap (λ l. mk_use l u.alone) lock ∙ ap (mk_use v.lock) alone

-- the uses of all locks of a footprint
module _ (layout : Hierarchy) (ops : List Op) (locks : List Cell) (strict : IsStrictlySortedBy cell_cmp locks)
    (listed : All (Contains locks) (locked_cells layout.spaces (cells_of ops))) (locked : All (IsLocked layout.spaces) locks)
    (seen : List Seen) (sorted : IsSorted seen_cmp seen) (moved : IsPermutation (seen_in layout.spaces locks ops) seen) where
  use_from : (u : LockUse) → Contains (uses_from 0 seen) u → IsUseOf layout ops locks u
  use_from u has =
      let (past, (s, among, is)) = from_uses 0 seen u has in
      let from = is_from layout.spaces locks ops s (Contains-permutation seen (seen_in layout.spaces locks ops) s (IsPermutation-sym (seen_in layout.spaces locks ops) seen moved) among) in
      let cell = from.cell in
      let in_locks : Contains locks cell
      = All-contains (Contains locks) (locked_cells layout.spaces (cells_of ops)) cell listed (filter_has (is_locked layout.spaces) (cells_of ops) cell from.named from.locked) in
      let lock : u.lock ≡ number_in locks cell = ap (λ (v : LockUse). v.lock) is ∙ from.lock in
      record {
        cell = cell;
        numbered = ap (slice_get locks) lock ∙ numbered locks strict cell in_locks;
        named = from.named;
        alone = (
          λ yes. from.alone (not_true s.shared (sym (ap (λ (v : LockUse). v.alone) is) ∙ yes)),
          λ either. elim either [
            | inl exclusive ↦
                let (t, there, at, alone) = seen_each layout.spaces locks ops cell from.locked from.named in
                first_alone 0 seen (before_all seen sorted) u has t (Contains-permutation (seen_in layout.spaces locks ops) seen t moved there) (at ∙ sym lock) (alone exclusive)
            | inr writes ↦
                let (t, there, at, alone) = seen_alone layout.spaces locks ops cell from.locked writes in
                first_alone 0 seen (before_all seen sorted) u has t (Contains-permutation (seen_in layout.spaces locks ops) seen t moved there) (at ∙ sym lock) alone
          ],
        );
      }
    where
      not_true : (b : Bool) → not b ≡ true → b ≡ false
      not_true true is = absurd (cc)
      not_true false is = refl

  use_has : (u : LockUse) → IsUseOf layout ops locks u → Contains (uses_from 0 seen) u
  use_has u h =
      let cell = h.cell in
      let is_one : is_locked layout.spaces cell ≡ true
      = locked_true layout.spaces cell (All-contains (IsLocked layout.spaces) locks cell locked
      (u.lock, slice_get_within locks u.lock cell h.numbered, get_or_from_slice_get locks u.lock cell cell h.numbered)) in
      let (t, there, at, exclusive) = seen_each layout.spaces locks ops cell is_one h.named in
      let number : number_in locks cell ≡ u.lock = number_is locks strict u.lock cell h.numbered in
      let (v, among, is) = has_use 0 seen (before_all seen sorted) t (Contains-permutation (seen_in layout.spaces locks ops) seen t moved there) (omega arith) in
      let lock : v.lock ≡ u.lock = is ∙ at ∙ number in
      let other = use_from v among in
      let same_cell : other.cell ≡ cell = same_Some other.cell cell (sym other.numbered ∙ ap (slice_get locks) lock ∙ h.numbered) in
      let alone : v.alone ≡ u.alone
      = same_bool v.alone u.alone
      (λ yes. h.alone.1 (subst (λ c. (locking_of layout.spaces c ≡ Exclusive) ⊎ Contains (cells_written ops) c) same_cell (other.alone.0 yes)))
      (λ yes. other.alone.1 (subst (λ c. (locking_of layout.spaces c ≡ Exclusive) ⊎ Contains (cells_written ops) c) (sym same_cell) (h.alone.0 yes))) in
      subst (λ w. Contains (uses_from 0 seen) w) (same_use v u lock alone) among

  pub lists_uses : ListsUses layout ops locks (uses_from 0 seen)
  lists_uses = record {
    each = λ u. (use_from u, use_has u);
    rising = uses_rise 0 seen;
  }

  -- there is one where they name a cell with a lock
  pub some_use : (cell : Cell) → Contains (cells_of ops) cell → IsLocked layout.spaces cell → 0 < length (uses_from 0 seen)
  some_use cell named is_locked_cell =
      let (t, there, at, exclusive) = seen_each layout.spaces locks ops cell (locked_true layout.spaces cell is_locked_cell) named in
      let (u, among, is) = has_use 0 seen (before_all seen sorted) t (Contains-permutation (seen_in layout.spaces locks ops) seen t moved there) (omega arith) in
      omega (arith, among.1)
