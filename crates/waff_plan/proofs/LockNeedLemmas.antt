-- What messages need of each lock, use by use and message by message.
use Rattle.std.proofs.Common.{◌≡◌, ◌⊎◌, inl, inr, ℕ, suc, ◌+◌, ◌-◌, ◌<◌, ◌≤◌, ◌&&◌, ◌||◌, not, Bool, true, false, List, [], ◌∷◌, ◌++◌, All, length, get_or, None, map, set, sum_by, take, cond, eqb, Some, refl, sym, ◌∙◌, ap, subst, arith}
use Rattle.std.specs.List.{flat_map, list_any, range_with_len}
use Rattle.std.proofs.lemmas.Bool.{and_left, cases_Bool, cases_eq, cond-false, cond-true, eq-eqb, eqb-true, ne_eqb, or_cases}
use Rattle.std.proofs.lemmas.List.{get_or_default, get_or-set_other, get_or-set_same, get_or-take, length-set, length-take, map-append, take_all}
use Rattle.std.proofs.lemmas.List.Concat.{flat_map-cons}
use Rattle.std.proofs.lemmas.List.Folds.{list_any_more, list_any_none}
use Rattle.std.proofs.lemmas.List.FromFn.{get_or-map-range_with_len, length-map-range_with_len}
use Rattle.std.proofs.lemmas.List.Recursion.{max_bounds}
use Rattle.std.proofs.lemmas.List.Sums.{sum_by-cons}
use Rattle.std.proofs.lemmas.Option.{slice_get-get_or}
use Rattle.waff_assign.specs.Held.{AreLocksBelow, Held, IsRising, using}
use Rattle.waff_assign.specs.Order.{affinity_of, held_of}
use Rattle.waff_assign.specs.declared.held.LockUse.{LockUse}
use Rattle.waff_plan.specs.LockNeeds.{IsLockNeed, IsNeedWith, alone_cost, no_need}
use Rattle.waff_plan.specs.LowerBound.{cost_in, greatest_lock, keeps_lock, kept_cost, lock_cost, option_is, own_cost, shared_cost, shares_lock, uses_alone, uses_lock}
use Rattle.waff_plan.specs.Work.{Work, greatest, numbers, total_of}
use Rattle.waff_plan.specs.declared.lock_bound.LockNeed.{LockNeed}
use Rattle.waff_plan.proofs.Longest.{greatest_more, sum_more}
use Rattle.waff_plan.proofs.LowerBounds.{greatest_within, term_within}
use Rattle.waff_plan.proofs.Ticks.{sum_by-numbers-le}

-- what need there is with a first use of a lock, where none was so far
not_so_far : (in_root : Bool) (cost : ℕ) → cond {A = ℕ} (not in_root && false) cost 0 ≡ 0
not_so_far true cost = refl
not_so_far false cost = refl

nor_shared : (in_root : Bool) (cost : ℕ) → cond {A = ℕ} (not (in_root || false) && false) cost 0 ≡ 0
nor_shared true cost = refl
nor_shared false cost = refl

or_none : (b : Bool) → (b || false) ≡ b
or_none true = refl
or_none false = refl

pub need_none : (in_root : Bool) (cost : ℕ) (need : LockNeed) → IsNeedWith in_root cost false false need need
need_none in_root cost need = record {
  kept = omega (arith, not_so_far in_root cost);
  shared = omega (arith, nor_shared in_root cost);
  used = sym (or_none need.used);
}

-- the need of a lock with its first use
need_first : (in_root : Bool) (cost : ℕ) (alone : Bool) (old mid new : LockNeed) → IsNeedWith in_root cost false false old mid
    → IsNeedWith in_root cost alone true mid new → IsNeedWith in_root cost alone true old new
need_first in_root cost alone old mid new before after = record {
  kept = omega (arith, before.kept, not_so_far in_root cost, after.kept);
  shared = omega (arith, before.shared, nor_shared in_root cost, after.shared);
  used = after.used ∙ ap (λ b. b || true) (before.used ∙ or_none old.used);
}

pub kept_more : (in_root : Bool) (cost : ℕ) (alone uses : Bool) (old new : LockNeed) → IsNeedWith in_root cost alone uses old new → new.kept ≤ old.kept + cost
kept_more in_root cost alone uses old new need = elim (cases_Bool (not in_root && alone)) [
  | inl is ↦ omega (arith, need.kept, cond-true (not in_root && alone) cost 0 is)
  | inr not_is ↦ omega (arith, need.kept, cond-false (not in_root && alone) cost 0 not_is)
]

same_need : (in_root : Bool) (cost : ℕ) (alone uses alone_now uses_now : Bool) (old new : LockNeed) → alone_now ≡ alone → uses_now ≡ uses
    → IsNeedWith in_root cost alone uses old new → IsNeedWith in_root cost alone_now uses_now old new
same_need in_root cost alone uses alone_now uses_now old new is_alone is_used need =
    subst (λ a. IsNeedWith in_root cost a uses_now old new) (sym is_alone) (subst (λ b. IsNeedWith in_root cost alone b old new) (sym is_used) need)

-- the uses of one message, one after another
module _ (in_root : Bool) (cost : ℕ) (uses : List LockUse) (olds : List LockNeed) where
  -- the uses before this one
  pub record AreNoted (p : ℕ) (needs : List LockNeed) : Type 0 where
    pub count : length needs ≡ length olds
    pub each : (lock : ℕ) → lock < length olds
        → IsNeedWith in_root cost (uses_alone lock (using (take p uses))) (uses_lock lock (using (take p uses))) (get_or olds lock no_need) (get_or needs lock no_need)

  pub none_noted : AreNoted 0 olds
  none_noted = record { count = refl; each = λ lock within. need_none in_root cost (get_or olds lock no_need) }

  module _ (rising : IsRising uses) (p : ℕ) (u : LockUse) (within : p < length uses) (at : u ≡ get_or uses p u) where
    of_lock : ℕ → LockUse → Bool
    of_lock lock v = eqb v.lock lock

    -- no earlier use is of this lock
    before_other : (k : ℕ) (d : LockUse) → k < length (take p uses) → eqb (get_or (take p uses) k d).lock u.lock ≡ false
    before_other k d short =
        let low : k < p = omega (arith, short, length-take p uses) in
        let there : k < length uses = omega (arith, low, within) in
        let here = rising k p (get_or uses k d) u low (slice_get-get_or uses k d there) (slice_get-get_or uses p u within ∙ ap Some (sym at)) in
        ne_eqb (get_or (take p uses) k d).lock u.lock
        (λ same. let same_lock : (get_or uses k d).lock ≡ u.lock = ap (λ (v : LockUse). v.lock) (sym (get_or-take p uses k d low)) ∙ same in omega (arith, here, same_lock))

    none_before : uses_lock u.lock (using (take p uses)) ≡ false
    none_before = list_any_none (λ (v : LockUse). eqb v.lock u.lock) (take p uses) before_other

    none_alone : uses_alone u.lock (using (take p uses)) ≡ false
    none_alone =
        list_any_none (λ (v : LockUse). eqb v.lock u.lock && v.alone) (take p uses)
        (λ k d short. and_left (eqb (get_or (take p uses) k d).lock u.lock) (get_or (take p uses) k d).alone (before_other k d short))

    more_uses : (lock : ℕ) → uses_lock lock (using (take (p + 1) uses)) ≡ (uses_lock lock (using (take p uses)) || eqb u.lock lock)
    more_uses lock =
        list_any_more (λ (v : LockUse). eqb v.lock lock) uses p u within
        ∙ ap (λ (v : LockUse). uses_lock lock (using (take p uses)) || eqb v.lock lock) (sym at)

    more_alone : (lock : ℕ) → uses_alone lock (using (take (p + 1) uses)) ≡ (uses_alone lock (using (take p uses)) || (eqb u.lock lock && u.alone))
    more_alone lock =
        list_any_more (λ (v : LockUse). eqb v.lock lock && v.alone) uses p u within
        ∙ ap (λ (v : LockUse). uses_alone lock (using (take p uses)) || (eqb v.lock lock && v.alone)) (sym at)

    -- one use more
    pub noted_more : (needs : List LockNeed) (now : LockNeed) → AreNoted p needs → u.lock < length needs
        → IsNeedWith in_root cost u.alone true (get_or needs u.lock no_need) now → AreNoted (p + 1) (set needs u.lock now)
    noted_more needs now so_far there need = record {
      count = length_set ∙ so_far.count;
      each = λ lock low. elim (cases_eq_lock lock) [
        | inl same ↦
            let old = get_or olds u.lock no_need in
            let low_here : u.lock < length olds = omega (arith, there, so_far.count) in
            let before = so_far.each u.lock low_here in
            let none = same_need in_root cost (uses_alone u.lock (using (take p uses))) (uses_lock u.lock (using (take p uses))) false false old (get_or needs u.lock no_need) (sym none_alone) (sym none_before) before in
            let first = need_first in_root cost u.alone old (get_or needs u.lock no_need) now none need in
            let self : eqb u.lock u.lock ≡ true = eq-eqb u.lock u.lock refl in
            let alone : uses_alone u.lock (using (take (p + 1) uses)) ≡ u.alone
            = more_alone u.lock ∙ ap (λ b. b || (eqb u.lock u.lock && u.alone)) none_alone ∙ ap (λ b. b && u.alone) self in
            let used : uses_lock u.lock (using (take (p + 1) uses)) ≡ true
            = more_uses u.lock ∙ ap (λ b. b || eqb u.lock u.lock) none_before ∙ self in
            let here = same_need in_root cost u.alone true (uses_alone u.lock (using (take (p + 1) uses))) (uses_lock u.lock (using (take (p + 1) uses))) old now alone used first in
            let put : get_or (set needs u.lock now) u.lock no_need ≡ now = get_or-set_same needs u.lock now no_need there in
            subst (λ l. IsNeedWith in_root cost (uses_alone l (using (take (p + 1) uses))) (uses_lock l (using (take (p + 1) uses))) (get_or olds l no_need) (get_or (set needs u.lock now) l no_need))
            (sym same)
            (subst (λ n. IsNeedWith in_root cost (uses_alone u.lock (using (take (p + 1) uses))) (uses_lock u.lock (using (take (p + 1) uses))) old n) (sym put) here)
        | inr other ↦
            let not_this : eqb u.lock lock ≡ false = ne_eqb u.lock lock (λ same. other (sym same)) in
            let alone : uses_alone lock (using (take (p + 1) uses)) ≡ uses_alone lock (using (take p uses))
            = more_alone lock ∙ ap (λ b. uses_alone lock (using (take p uses)) || b) (and_left (eqb u.lock lock) u.alone not_this) ∙ or_none (uses_alone lock (using (take p uses))) in
            let used : uses_lock lock (using (take (p + 1) uses)) ≡ uses_lock lock (using (take p uses))
            = more_uses lock ∙ ap (λ b. uses_lock lock (using (take p uses)) || b) not_this ∙ or_none (uses_lock lock (using (take p uses))) in
            let put : get_or (set needs u.lock now) lock no_need ≡ get_or needs lock no_need = get_or-set_other needs u.lock lock now no_need other in
            subst (IsNeedWith in_root cost (uses_alone lock (using (take (p + 1) uses))) (uses_lock lock (using (take (p + 1) uses))) (get_or olds lock no_need)) (sym put)
            (same_need in_root cost (uses_alone lock (using (take p uses))) (uses_lock lock (using (take p uses))) (uses_alone lock (using (take (p + 1) uses))) (uses_lock lock (using (take (p + 1) uses)))
            (get_or olds lock no_need) (get_or needs lock no_need) alone used (so_far.each lock low))
      ];
    }
      where
        cases_eq_lock : (lock : ℕ) → (lock ≡ u.lock) ⊎ (lock ≡ u.lock → ⊥)
        cases_eq_lock lock = cases_eq lock u.lock

        length_set : length (set needs u.lock now) ≡ length needs
        length_set = length-set needs u.lock now

  -- what is kept is no more than one cost more
  pub kept_within : (p : ℕ) (needs : List LockNeed) → AreNoted p needs → (lock : ℕ) → lock < length olds
      → (get_or needs lock no_need).kept ≤ (get_or olds lock no_need).kept + cost
  kept_within p needs are lock low =
      kept_more in_root cost (uses_alone lock (using (take p uses))) (uses_lock lock (using (take p uses))) (get_or olds lock no_need) (get_or needs lock no_need) (are.each lock low)

-- of no message
pub lock_need_none : (assigned : List Held) (work : Work) (lock : ℕ) → IsLockNeed assigned work 0 lock no_need
lock_need_none assigned work lock = record { kept = refl; shared = refl; used = refl }

-- the needs of one message more
pub lock_need_more : (assigned : List Held) (work : Work) (n lock : ℕ) (in_root : Bool) (cost : ℕ) (old new : LockNeed) → n < length assigned
    → in_root ≡ option_is 0 (affinity_of assigned (n + 1)) → cost ≡ work.cost (n + 1) → IsLockNeed assigned work n lock old
    → IsNeedWith in_root cost (uses_alone lock (held_of assigned (n + 1))) (uses_lock lock (held_of assigned (n + 1))) old new
    → IsLockNeed assigned work (n + 1) lock new
lock_need_more assigned work n lock in_root cost old new within root costs before need =
    let held = held_of assigned (n + 1) in
    let back : n + 1 - 1 ≡ n = omega arith in
    let kept : cond {A = ℕ} (not in_root && uses_alone lock held) cost 0 ≡ alone_cost assigned work lock (n + 1)
    = ap (λ b. cond {A = ℕ} (not b && uses_alone lock held) cost 0) root ∙ ap (λ c. cond {A = ℕ} (not (option_is 0 (affinity_of assigned (n + 1))) && uses_alone lock held) c 0) costs in
    let shared : cond {A = ℕ} (not (in_root || uses_alone lock held) && uses_lock lock held) cost 0 ≡ shared_cost assigned work lock (n + 1)
    = ap (λ b. cond {A = ℕ} (not (b || uses_alone lock held) && uses_lock lock held) cost 0) root ∙ ap (λ c. cond {A = ℕ} (shares_lock lock held) c 0) costs in
    let last : uses_lock lock (get_or assigned n held) ≡ uses_lock lock held
    = ap (uses_lock lock) (get_or_default assigned n held (record { affinity = None; uses = [] }) within ∙ ap (λ k. get_or assigned k (record { affinity = None; uses = [] })) (sym back)) in
    record {
      kept = omega (arith, need.kept, before.kept, kept, sum_more (alone_cost assigned work lock) n);
      shared = omega (arith, need.shared, before.shared, shared, greatest_more (shared_cost assigned work lock) n);
      used = need.used ∙ ap (λ b. b || uses_lock lock held) before.used
          ∙ sym (list_any_more (uses_lock lock) assigned n held within ∙ ap (λ b. list_any (uses_lock lock) (take n assigned) || b) last);
    }

-- what is kept, by those that run in the root and the others
or_split : (a b : Bool) (cost : ℕ) → cond {A = ℕ} (a || b) cost 0 ≡ cond {A = ℕ} a cost 0 + cond {A = ℕ} (not a && b) cost 0
or_split true b cost = omega arith
or_split false b cost = omega arith

module _ (assigned : List Held) (work : Work) (lock : ℕ) where
  split_sum : (xs : List ℕ) → sum_by (kept_cost assigned work lock) xs ≡ sum_by (cost_in assigned work 0) xs + sum_by (alone_cost assigned work lock) xs
  split_sum [] = refl
  split_sum (m ∷ xs) =
      omega (
        arith,
        split_sum xs,
        or_split (option_is 0 (affinity_of assigned m)) (uses_alone lock (held_of assigned m)) (work.cost m),
        sum_by-cons (kept_cost assigned work lock) m xs,
        sum_by-cons (cost_in assigned work 0) m xs,
        sum_by-cons (alone_cost assigned work lock) m xs,
      )

  kept_total : sum_by (kept_cost assigned work lock) (numbers work) ≤ total_of work
  kept_total = sum_by-numbers-le work (kept_cost assigned work lock) work.cost (λ m number. elim (cases_Bool (keeps_lock lock (held_of assigned m))) [
    | inl is ↦ omega (arith, cond-true (keeps_lock lock (held_of assigned m)) (work.cost m) 0 is)
    | inr not_is ↦ omega (arith, cond-false (keeps_lock lock (held_of assigned m)) (work.cost m) 0 not_is)
  ])

  shared_total : greatest (map (shared_cost assigned work lock) (numbers work)) ≤ total_of work
  shared_total = greatest_within (shared_cost assigned work lock) 1 work.count (total_of work) (λ m from to.
      let one = term_within work.cost work.count m from (omega (arith, to)) in
      elim (cases_Bool (shares_lock lock (held_of assigned m))) [
        | inl is ↦ omega (arith, one, cond-true (shares_lock lock (held_of assigned m)) (work.cost m) 0 is)
        | inr not_is ↦ omega (arith, cond-false (shares_lock lock (held_of assigned m)) (work.cost m) 0 not_is)
      ])

  module _ (need : LockNeed) (is : IsLockNeed assigned work (length assigned) lock need) (long : length assigned ≡ work.count) where
    kept_is : own_cost assigned work 0 + need.kept ≡ sum_by (kept_cost assigned work lock) (numbers work)
    kept_is =
        let same = ap (λ n. sum_by (alone_cost assigned work lock) (range_with_len 1 n)) long in
        omega (arith, split_sum (numbers work), is.kept, same)

    shared_is : need.shared ≡ greatest (map (shared_cost assigned work lock) (numbers work))
    shared_is = is.shared ∙ ap (λ n. greatest (map (shared_cost assigned work lock) (range_with_len 1 n))) long

    used_is : need.used ≡ list_any (uses_lock lock) assigned
    used_is = is.used ∙ ap (list_any (uses_lock lock)) (take_all (length assigned) assigned (omega arith))

    -- in all
    pub need_small : (own_cost assigned work 0 + need.kept ≤ total_of work) × (need.shared ≤ total_of work)
    need_small = (omega (arith, kept_is, kept_total), omega (arith, shared_is, shared_total))

    pub need_used : need.used ≡ true → own_cost assigned work 0 + need.kept + need.shared ≡ lock_cost assigned work lock
    need_used used =
        omega (
          arith,
          kept_is,
          shared_is,
          cond-true (list_any (uses_lock lock) assigned)
              (sum_by (kept_cost assigned work lock) (numbers work) + greatest (map (shared_cost assigned work lock) (numbers work))) 0 (sym used_is ∙ used),
        )

    pub need_unused : need.used ≡ false → 0 ≡ lock_cost assigned work lock
    need_unused unused =
        sym (cond-false (list_any (uses_lock lock) assigned)
        (sum_by (kept_cost assigned work lock) (numbers work) + greatest (map (shared_cost assigned work lock) (numbers work))) 0 (sym used_is ∙ unused))

-- the greatest of all locks below a count that are used
module _ (assigned : List Held) (work : Work) (count : ℕ) (below : AreLocksBelow count assigned) where
  abbrev costs : List ℕ
  costs = map (lock_cost assigned work) (range_with_len 0 count)

  abbrev of_held : Held → List LockUse
  of_held held = held.uses

  abbrev of_use : LockUse → ℕ
  of_use u = lock_cost assigned work u.lock

  within_costs : (lock : ℕ) → lock < count → lock_cost assigned work lock ≤ greatest costs
  within_costs lock low =
      let short : lock < length costs = subst (λ n. lock < n) (sym (length-map-range_with_len (lock_cost assigned work) 0 count)) low in
      let at : get_or costs lock 0 ≡ lock_cost assigned work lock = get_or-map-range_with_len (lock_cost assigned work) 0 count lock lock 0 low (omega arith) in
      subst (λ x. x ≤ greatest costs) at (max_bounds greatest (λ x. x) refl (λ _ _. refl) costs lock 0 short)

  uses_within : (held : List Held) → AreLocksBelow count held → greatest (map of_use (flat_map of_held held)) ≤ greatest costs
  uses_within [] low = omega arith
  uses_within (one ∷ more) low =
      let front = subst (λ xs. greatest xs ≤ greatest costs) (sym (ap (map of_use) (flat_map-cons of_held one more) ∙ map-append of_use one.uses (flat_map of_held more))) in
      front (greatest_both (map of_use one.uses) (map of_use (flat_map of_held more)) (greatest costs) (own one.uses (low 0 one (omega arith))) (uses_within more (λ i d lt. low (suc i) d (omega (arith, lt)))))
    where
      own : (uses : List LockUse) → All (λ (u : LockUse). u.lock < count) uses → greatest (map of_use uses) ≤ greatest costs
      own [] all = omega arith
      own (u ∷ uses) all = omega (arith, within_costs u.lock (all 0 u (omega arith)), own uses (λ i d lt. all (suc i) d (omega (arith, lt))))

      greatest_both : (xs ys : List ℕ) (bound : ℕ) → greatest xs ≤ bound → greatest ys ≤ bound → greatest (xs ++ ys) ≤ bound
      greatest_both [] ys bound one two = two
      greatest_both (x ∷ xs) ys bound one two = omega (arith, one, greatest_both xs ys bound (omega (arith, one)) two)

  -- a use of some message is one of all
  used_within : (held : List Held) (lock : ℕ) → list_any (uses_lock lock) held ≡ true → lock_cost assigned work lock ≤ greatest (map of_use (flat_map of_held held))
  used_within [] lock used = absurd (cc)
  used_within (one ∷ more) lock used =
      subst (λ xs. lock_cost assigned work lock ≤ greatest xs) (sym (ap (map of_use) (flat_map-cons of_held one more) ∙ map-append of_use one.uses (flat_map of_held more)))
      (elim (or_cases (uses_lock lock one) (list_any (uses_lock lock) more) used) [
        | inl here ↦ let most = own one.uses here in let part = left_within (map of_use one.uses) (map of_use (flat_map of_held more)) in omega (arith, most, part)
        | inr later ↦ let most = used_within more lock later in let part = right_within (map of_use one.uses) (map of_use (flat_map of_held more)) in omega (arith, most, part)
      ])
    where
      own : (uses : List LockUse) → list_any (λ (u : LockUse). eqb u.lock lock) uses ≡ true → lock_cost assigned work lock ≤ greatest (map of_use uses)
      own [] any = absurd (cc)
      own (u ∷ uses) any = elim (or_cases (eqb u.lock lock) (list_any (λ (v : LockUse). eqb v.lock lock) uses) any) [
        | inl this ↦ omega (arith, ap (lock_cost assigned work) (eqb-true u.lock lock this))
        | inr later ↦ omega (arith, own uses later)
      ]

      left_within : (xs ys : List ℕ) → greatest xs ≤ greatest (xs ++ ys)
      left_within [] ys = omega arith
      left_within (x ∷ xs) ys = omega (arith, left_within xs ys)

      right_within : (xs ys : List ℕ) → greatest ys ≤ greatest (xs ++ ys)
      right_within [] ys = omega arith
      right_within (x ∷ xs) ys = omega (arith, right_within xs ys)

  costs_within : greatest costs ≤ greatest_lock assigned work
  costs_within = greatest_within (lock_cost assigned work) 0 count (greatest_lock assigned work) (λ lock from to.
      elim (cases_Bool (list_any (uses_lock lock) assigned)) [
        | inl used ↦ used_within assigned lock used
        | inr unused ↦ omega (
          arith,
          cond-false (list_any (uses_lock lock) assigned)
              (sum_by (kept_cost assigned work lock) (numbers work) + greatest (map (shared_cost assigned work lock) (numbers work))) 0 unused,
        )
      ])

  pub greatest_is : greatest costs ≡ greatest_lock assigned work
  greatest_is = omega (arith, uses_within assigned below, costs_within)
