-- The tables by locks: which messages their entries speak of.
use Rattle.std.proofs.Common.{◌≡◌, ◌≢◌, ◌⊎◌, ℕ, ◌<◌, inl, inr, true, cond, List, [], ◌∷◌, length, set, replicate, Contains, ◌++◌, Option, Some, None, arith, refl, sym, ◌∙◌, ap, subst}
use Rattle.std.proofs.lemmas.Bool.{cases_eq, cases_lt, cond_both, false≢true}
use Rattle.std.proofs.lemmas.List.{get_or-set_same, get_or-set_other, get_or_past, get_or-replicate, length-replicate}
use Rattle.std.proofs.lemmas.List.Elements.{Contains-append_left, Contains-push, Contains-push_cases}
use Rattle.waff_assign.specs.Held.{Contend, Held, UsesAlone, UsesLock, using}
use Rattle.waff_assign.specs.Order.{held_of}
use Rattle.waff_assign.specs.declared.held.LockUse.{LockUse}
use Rattle.waff_assign.proofs.Holding.{uses_alone_uses}
use Rattle.waff_plan.specs.Latest.{later_of, IsFound}
use Rattle.waff_plan.specs.Table.{IsLatestByLocks, IsLockTable, lock_at}
use Rattle.waff_plan.specs.declared.latest.Latest.{Latest}
use Rattle.waff_plan.specs.declared.lock_table.LockLatest.{LockLatest}
use Rattle.waff_plan.specs.declared.lock_table.LockTable.{LockTable}
use Rattle.waff_plan.proofs.Latests.{found_again, found_either, found_none, found_one, found_same}

abbrev pub no_latest : LockLatest
no_latest = record { alone = None; users = None }

-- the table of no message
pub locks_none : (assigned : List Held) (finish : ℕ → ℕ) (count : ℕ) (table : LockTable) → table.locks.items ≡ replicate count no_latest → table.some ≡ None
    → IsLockTable assigned finish [] table
locks_none assigned finish count table locks some = record {
  alone = λ lock. found_none (λ i. UsesAlone (held_of assigned i) lock) finish (lock_at table.locks.items lock).alone (ap (λ (x : LockLatest). x.alone) (none_at lock));
  users = λ lock. found_none (λ i. UsesLock (held_of assigned i) lock) finish (lock_at table.locks.items lock).users (ap (λ (x : LockLatest). x.users) (none_at lock));
  some = found_none (λ i. (lock : ℕ) × UsesLock (held_of assigned i) lock) finish table.some some;
}
  where
    none_at : (lock : ℕ) → lock_at table.locks.items lock ≡ no_latest
    none_at lock = ap (λ xs. lock_at xs lock) locks ∙ elim (cases_lt lock count) [
      | inl within ↦ get_or-replicate count lock no_latest no_latest within
      | inr past ↦ get_or_past (replicate count no_latest) lock no_latest (omega (arith, length-replicate {A = LockLatest} count no_latest))
    ]

-- a use in a list and one more is the one more or stands in the list
module _ (uses : List LockUse) (u : LockUse) (lock : ℕ) where
  abbrev more : Held
  more = using (uses ++ u ∷ [])

  UsesLock-push : UsesLock (using uses) lock → UsesLock more lock
  UsesLock-push h = (h.0, Contains-append_left uses (u ∷ []) h.0 h.1, h.2)

  UsesAlone-push : UsesAlone (using uses) lock → UsesAlone more lock
  UsesAlone-push h = (h.0, Contains-append_left uses (u ∷ []) h.0 h.1, h.2, h.3)

  UsesLock-pushed : u.lock ≡ lock → UsesLock more lock
  UsesLock-pushed same = (u, Contains-push uses u, same)

  UsesAlone-pushed : u.lock ≡ lock → u.alone ≡ true → UsesAlone more lock
  UsesAlone-pushed same alone = (u, Contains-push uses u, same, alone)

  UsesLock-cases : UsesLock more lock → UsesLock (using uses) lock ⊎ (u.lock ≡ lock)
  UsesLock-cases h = elim (Contains-push_cases uses u h.0 h.1) [
    | inl old ↦ inl (h.0, old, h.2)
    | inr new ↦ inr (ap (λ (x : LockUse). x.lock) new ∙ h.2)
  ]

  UsesAlone-cases : UsesAlone more lock → UsesAlone (using uses) lock ⊎ ((u.lock ≡ lock) × (u.alone ≡ true))
  UsesAlone-cases h = elim (Contains-push_cases uses u h.0 h.1) [
    | inl old ↦ inl (h.0, old, h.2, h.3)
    | inr new ↦ inr (ap (λ (x : LockUse). x.lock) new ∙ h.2, ap (λ (x : LockUse). x.alone) new ∙ h.3)
  ]

module _ (assigned : List Held) (finish : ℕ → ℕ) (noted : List ℕ) where
  -- of those that use one of some locks, with one more lock
  pub by_one_more : (table : LockTable) (uses : List LockUse) (u : LockUse) (found : Option Latest) → IsLockTable assigned finish noted table
      → IsLatestByLocks assigned finish noted (using uses) found
      → IsLatestByLocks assigned finish noted (using (uses ++ u ∷ []))
      (later_of found (cond u.alone (lock_at table.locks.items u.lock).users (lock_at table.locks.items u.lock).alone))
  by_one_more table uses u found h by =
      let entry = lock_at table.locks.items u.lock in
      let latest = cond u.alone entry.users entry.alone in
      let Old : ℕ → Type 0 = λ i. Contains noted i × ((lock : ℕ) × Contend (held_of assigned i) (using uses) lock) in
      let All : ℕ → Type 0 = λ i. Contains noted i × ((lock : ℕ) × Contend (held_of assigned i) (using (uses ++ u ∷ [])) lock) in
      let old = λ (i : ℕ) (h : Old i). let (there, (lock, contend)) = h in
      let new : All i = (
        there,
        (
          lock,
          elim contend [
            | inl alone ↦ inl (alone.0, UsesLock-push uses u lock alone.1)
            | inr alone ↦ inr (alone.0, UsesAlone-push uses u lock alone.1)
          ],
        ),
      ) in new in
      cond_both u.alone entry.users entry.alone (λ x. IsFound All finish (later_of found x))
      (λ alone.
      found_same (λ i. Old i ⊎ (Contains noted i × UsesLock (held_of assigned i) u.lock)) All finish (later_of found entry.users)
      (λ i either. elim either [
        | inl there ↦ old i there
        | inr there ↦ (there.0, (u.lock, inr (there.1, UsesAlone-pushed uses u u.lock refl alone)))
      ])
      (λ i there. elim there.1.1 [
        | inl both ↦ elim (UsesLock-cases uses u there.1.0 both.1) [
          | inl before ↦ inl (there.0, (there.1.0, inl (both.0, before)))
          | inr same ↦ inr (there.0, subst (UsesLock (held_of assigned i)) (sym same) (uses_alone_uses (held_of assigned i) there.1.0 both.0))
        ]
        | inr both ↦ elim (UsesAlone-cases uses u there.1.0 both.1) [
          | inl before ↦ inl (there.0, (there.1.0, inr (both.0, before)))
          | inr same ↦ inr (there.0, subst (UsesLock (held_of assigned i)) (sym same.0) both.0)
        ]
      ])
      (found_either Old (λ i. Contains noted i × UsesLock (held_of assigned i) u.lock) finish found entry.users by (h.users u.lock)))
      (λ shared.
      found_same (λ i. Old i ⊎ (Contains noted i × UsesAlone (held_of assigned i) u.lock)) All finish (later_of found entry.alone)
      (λ i either. elim either [
        | inl there ↦ old i there
        | inr there ↦ (there.0, (u.lock, inl (there.1, UsesLock-pushed uses u u.lock refl)))
      ])
      (λ i there. elim there.1.1 [
        | inl both ↦ elim (UsesLock-cases uses u there.1.0 both.1) [
          | inl before ↦ inl (there.0, (there.1.0, inl (both.0, before)))
          | inr same ↦ inr (there.0, subst (UsesAlone (held_of assigned i)) (sym same) both.0)
        ]
        | inr both ↦ elim (UsesAlone-cases uses u there.1.0 both.1) [
          | inl before ↦ inl (there.0, (there.1.0, inr (both.0, before)))
          | inr same ↦ absurd (false≢true (sym shared ∙ same.1))
        ]
      ])
      (found_either Old (λ i. Contains noted i × UsesAlone (held_of assigned i) u.lock) finish found entry.alone by (h.alone u.lock)))

  -- a message is noted with the first of the locks that it uses
  abbrev WithFirst : (Held → Type 0) → ℕ → List LockUse → Option Latest → Type 0
  WithFirst Uses m uses latest = IsFound (λ i. (Contains noted i × Uses (held_of assigned i)) ⊎ ((i ≡ m) × Uses (using uses))) finish latest

  pub record AreUsesNoted (m : ℕ) (uses : List LockUse) (table : LockTable) : Type 0 where
    pub alone : (lock : ℕ) → WithFirst (λ held. UsesAlone held lock) m uses (lock_at table.locks.items lock).alone
    pub users : (lock : ℕ) → WithFirst (λ held. UsesLock held lock) m uses (lock_at table.locks.items lock).users
    pub some : WithFirst (λ held. (lock : ℕ) × UsesLock held lock) m uses table.some

  first_none : (Uses : Held → Type 0) (m : ℕ) (latest : Option Latest) → (Uses (using []) → ⊥) → IsFound (λ i. Contains noted i × Uses (held_of assigned i)) finish latest
      → WithFirst Uses m [] latest
  first_none Uses m latest none h =
      found_same (λ i. Contains noted i × Uses (held_of assigned i)) (λ i. (Contains noted i × Uses (held_of assigned i)) ⊎ ((i ≡ m) × Uses (using []))) finish latest
      (λ i there. inl there) (λ i either. elim either [ inl there ↦ there | inr new ↦ absurd (none new.1) ]) h

  -- with none of them
  pub no_use_noted : (m : ℕ) (table : LockTable) → IsLockTable assigned finish noted table → AreUsesNoted m [] table
  no_use_noted m table h = record {
    alone = λ lock. first_none (λ held. UsesAlone held lock) m (lock_at table.locks.items lock).alone (λ uses. omega (arith, uses.1.1)) (h.alone lock);
    users = λ lock. first_none (λ held. UsesLock held lock) m (lock_at table.locks.items lock).users (λ uses. omega (arith, uses.1.1)) (h.users lock);
    some = first_none (λ held. (lock : ℕ) × UsesLock held lock) m table.some (λ uses. omega (arith, uses.1.1.1)) h.some;
  }

  first_same : (Uses : Held → Type 0) (m : ℕ) (uses more : List LockUse) (latest : Option Latest) → (Uses (using uses) → Uses (using more)) → (Uses (using more) → Uses (using uses))
      → WithFirst Uses m uses latest → WithFirst Uses m more latest
  first_same Uses m uses more latest to from h =
      found_same (λ i. (Contains noted i × Uses (held_of assigned i)) ⊎ ((i ≡ m) × Uses (using uses)))
      (λ i. (Contains noted i × Uses (held_of assigned i)) ⊎ ((i ≡ m) × Uses (using more))) finish latest
      (λ i either. elim either [ inl there ↦ inl there | inr new ↦ inr (new.0, to new.1) ])
      (λ i either. elim either [ inl there ↦ inl there | inr new ↦ inr (new.0, from new.1) ]) h

  module _ (message : Latest) (finish_is : finish message.number ≡ message.finish) where
    first_more : (Uses : Held → Type 0) (uses more : List LockUse) (latest : Option Latest) → (Uses (using uses) → Uses (using more)) → Uses (using more)
        → WithFirst Uses message.number uses latest → WithFirst Uses message.number more (later_of latest (Some message))
    first_more Uses uses more latest to here h =
        let m = message.number in
        let Old : ℕ → Type 0 = λ i. (Contains noted i × Uses (held_of assigned i)) ⊎ ((i ≡ m) × Uses (using uses)) in
        found_same (λ i. Old i ⊎ (i ≡ m)) (λ i. (Contains noted i × Uses (held_of assigned i)) ⊎ ((i ≡ m) × Uses (using more))) finish (later_of latest (Some message))
        (λ i either. elim either [
          | inl old ↦ elim old [ inl there ↦ inl there | inr new ↦ inr (new.0, to new.1) ]
          | inr is ↦ inr (is, here)
        ])
        (λ i either. elim either [ inl there ↦ inl (inl there) | inr new ↦ inr new.0 ])
        (found_either Old (λ i. i ≡ m) finish latest (Some message) h (found_one finish message finish_is))

    -- with one more of them
    pub one_use_noted : (uses : List LockUse) (u : LockUse) (old new : LockTable) → u.lock < length old.locks.items
        → new.locks.items ≡ set old.locks.items u.lock (record {
          users = later_of (lock_at old.locks.items u.lock).users (Some message);
          alone = cond u.alone (later_of (lock_at old.locks.items u.lock).alone (Some message)) (lock_at old.locks.items u.lock).alone;
        })
        → new.some ≡ later_of old.some (Some message) → AreUsesNoted message.number uses old → AreUsesNoted message.number (uses ++ u ∷ []) new
    one_use_noted uses u old new within locks some h =
        let m = message.number in
        let entry = lock_at old.locks.items u.lock in
        let put : LockLatest = record { users = later_of entry.users (Some message); alone = cond u.alone (later_of entry.alone (Some message)) entry.alone } in
        let here : (lock : ℕ) → u.lock ≡ lock → lock_at new.locks.items lock ≡ put
        = λ lock same. ap (λ xs. lock_at xs lock) locks ∙ ap (λ k. lock_at (set old.locks.items u.lock put) k) (sym same) ∙ get_or-set_same old.locks.items u.lock put no_latest within in
        let there : (lock : ℕ) → lock ≢ u.lock → lock_at new.locks.items lock ≡ lock_at old.locks.items lock
        = λ lock other. ap (λ xs. lock_at xs lock) locks ∙ get_or-set_other old.locks.items u.lock lock put no_latest other in
        record {
          alone = λ lock. elim (cases_eq lock u.lock) [
            | inl same ↦
                subst (λ (x : LockLatest). WithFirst (λ held. UsesAlone held lock) m (uses ++ u ∷ []) x.alone) (sym (here lock (sym same)))
                (cond_both u.alone (later_of entry.alone (Some message)) entry.alone (λ x. WithFirst (λ held. UsesAlone held lock) m (uses ++ u ∷ []) x)
                (λ alone.
                first_more (λ held. UsesAlone held lock) uses (uses ++ u ∷ []) entry.alone (UsesAlone-push uses u lock) (UsesAlone-pushed uses u lock (sym same) alone)
                (subst (λ k. WithFirst (λ held. UsesAlone held lock) m uses (lock_at old.locks.items k).alone) same (h.alone lock)))
                (λ shared.
                first_same (λ held. UsesAlone held lock) m uses (uses ++ u ∷ []) entry.alone (UsesAlone-push uses u lock)
                (λ uses_more. elim (UsesAlone-cases uses u lock uses_more) [ inl before ↦ before | inr new ↦ absurd (false≢true (sym shared ∙ new.1)) ])
                (subst (λ k. WithFirst (λ held. UsesAlone held lock) m uses (lock_at old.locks.items k).alone) same (h.alone lock))))
            | inr other ↦
                subst (λ (x : LockLatest). WithFirst (λ held. UsesAlone held lock) m (uses ++ u ∷ []) x.alone) (sym (there lock other))
                (first_same (λ held. UsesAlone held lock) m uses (uses ++ u ∷ []) (lock_at old.locks.items lock).alone (UsesAlone-push uses u lock)
                (λ uses_more. elim (UsesAlone-cases uses u lock uses_more) [ inl before ↦ before | inr new ↦ absurd (other (sym new.0)) ]) (h.alone lock))
          ];
          users = λ lock. elim (cases_eq lock u.lock) [
            | inl same ↦
                subst (λ (x : LockLatest). WithFirst (λ held. UsesLock held lock) m (uses ++ u ∷ []) x.users) (sym (here lock (sym same)))
                (first_more (λ held. UsesLock held lock) uses (uses ++ u ∷ []) entry.users (UsesLock-push uses u lock) (UsesLock-pushed uses u lock (sym same))
                (subst (λ k. WithFirst (λ held. UsesLock held lock) m uses (lock_at old.locks.items k).users) same (h.users lock)))
            | inr other ↦
                subst (λ (x : LockLatest). WithFirst (λ held. UsesLock held lock) m (uses ++ u ∷ []) x.users) (sym (there lock other))
                (first_same (λ held. UsesLock held lock) m uses (uses ++ u ∷ []) (lock_at old.locks.items lock).users (UsesLock-push uses u lock)
                (λ uses_more. elim (UsesLock-cases uses u lock uses_more) [ inl before ↦ before | inr new ↦ absurd (other (sym new)) ]) (h.users lock))
          ];
          some = subst (λ x. WithFirst (λ held. (lock : ℕ) × UsesLock held lock) m (uses ++ u ∷ []) x) (sym some)
              (first_more (λ held. (lock : ℕ) × UsesLock held lock) uses (uses ++ u ∷ []) old.some
              (λ before. (before.0, UsesLock-push uses u before.0 before.1)) (u.lock, UsesLock-pushed uses u u.lock refl) h.some);
        }

  first_all : (Uses : Held → Type 0) (m : ℕ) (uses : List LockUse) (latest : Option Latest) → (Uses (using uses) → Uses (held_of assigned m)) → (Uses (held_of assigned m) → Uses (using uses))
      → WithFirst Uses m uses latest → IsFound (λ i. Contains (noted ++ m ∷ []) i × Uses (held_of assigned i)) finish latest
  first_all Uses m uses latest to from h =
      found_same (λ i. (Contains noted i × Uses (held_of assigned i)) ⊎ ((i ≡ m) × Uses (using uses))) (λ i. Contains (noted ++ m ∷ []) i × Uses (held_of assigned i)) finish latest
      (λ i either. elim either [
        | inl there ↦ (Contains-append_left noted (m ∷ []) i there.0, there.1)
        | inr new ↦ (subst (Contains (noted ++ m ∷ [])) (sym new.0) (Contains-push noted m), subst (λ k. Uses (held_of assigned k)) (sym new.0) (to new.1))
      ])
      (λ i there. elim (Contains-push_cases noted m i there.0) [
        | inl old ↦ inl (old, there.1)
        | inr new ↦ inr (sym new, from (subst (λ k. Uses (held_of assigned k)) (sym new) there.1))
      ])
      h

  -- with all of them
  pub all_uses_noted : (m : ℕ) (uses : List LockUse) (table : LockTable) → (held_of assigned m).uses ≡ uses → AreUsesNoted m uses table
      → IsLockTable assigned finish (noted ++ m ∷ []) table
  all_uses_noted m uses table are h =
      let to : (lock : ℕ) → UsesLock (using uses) lock → UsesLock (held_of assigned m) lock = λ lock. subst (λ us. UsesLock (using us) lock) (sym are) in
      let from : (lock : ℕ) → UsesLock (held_of assigned m) lock → UsesLock (using uses) lock = λ lock. subst (λ us. UsesLock (using us) lock) are in
      record {
        alone = λ lock.
            first_all (λ held. UsesAlone held lock) m uses (lock_at table.locks.items lock).alone (subst (λ us. UsesAlone (using us) lock) (sym are))
            (subst (λ us. UsesAlone (using us) lock) are) (h.alone lock);
        users = λ lock. first_all (λ held. UsesLock held lock) m uses (lock_at table.locks.items lock).users (to lock) (from lock) (h.users lock);
        some = first_all (λ held. (lock : ℕ) × UsesLock held lock) m uses table.some (λ some. (some.0, to some.0 some.1)) (λ some. (some.0, from some.0 some.1)) h.some;
      }

  -- with the same finishes the table is the same
  pub locks_again : (again : ℕ → ℕ) (table : LockTable) → ((i : ℕ) → Contains noted i → again i ≡ finish i)
      → IsLockTable assigned finish noted table → IsLockTable assigned again noted table
  locks_again again table same h = record {
    alone = λ lock. found_again (λ i. Contains noted i × UsesAlone (held_of assigned i) lock) finish again (lock_at table.locks.items lock).alone (λ i is. same i is.0) (h.alone lock);
    users = λ lock. found_again (λ i. Contains noted i × UsesLock (held_of assigned i) lock) finish again (lock_at table.locks.items lock).users (λ i is. same i is.0) (h.users lock);
    some = found_again (λ i. Contains noted i × ((lock : ℕ) × UsesLock (held_of assigned i) lock)) finish again table.some (λ i is. same i is.0) h.some;
  }
